-- The lines of records. Each line has the time of its record, so records of several times have
-- lines too.
use Rattle.std.specs.Prelude.{Bool, Option, Some, None, List, [], ◌++◌, slice_get}
use Rattle.std.specs.Prelude.{if◌then◌else◌}
use Rattle.std.specs.List.{flat_map}
use Rattle.quantity.specs.Bytes.{Bytes}
use Rattle.model_tree.specs.Tree.{Word, Leaf}
use Rattle.text_forms.specs.declared.letter.Letter.{Letter}
use Rattle.text_forms.specs.declared.letter.Letter.TheVariants.{Y, N, X, S}
use Rattle.text_forms.specs.LogLine.{given, moved, line_text}
use Rattle.text_forms.specs.Lines as forms
use Rattle.text_forms.specs.Lines.{line_with_end, leaf_name, in_port_name, out_port_name}
use Rattle.text_forms.specs.declared.records.Letters.{Letters}
use Rattle.text_forms.specs.declared.records.YRecord.{YRecord}
use Rattle.text_forms.specs.declared.records.XRecord.{XRecord}
use Rattle.text_forms.specs.declared.records.SRecord.{SRecord}
use Rattle.text_forms.specs.declared.records.OutRecord.{OutRecord}
use Rattle.text_forms.specs.declared.records.Records.{Records}

-- ---- the line of one record, of this leaf

-- a value that it gave: the letter is Y at the port `out`, and N at a further port
unfoldable pub y_text : Letter → YRecord → Leaf → Bytes
y_text letter r l =
    line_with_end (line_text (given letter r.time (leaf_name l) (out_port_name l r.port.0) r.value))

-- a value that reached it
unfoldable pub x_text : XRecord → Leaf → Bytes
x_text r l =
    line_with_end (line_text (given X r.time (leaf_name l) (in_port_name l r.port.0) r.value))

-- that it moved
unfoldable pub s_text : SRecord → Leaf → Bytes
s_text r l = line_with_end (line_text (moved r.time (leaf_name l) r.value r.next))

-- ---- the lines of a list of records, of these leaves

-- the line of a leaf, where there is one
abbrev pub text_at : (Leaf → Bytes) → Option Leaf → Bytes
text_at text None = []
text_at text (Some l) = text l

-- the Y lines, or the N lines
abbrev pub y_texts : Letter → List Leaf → List YRecord → Bytes
y_texts letter ls rs =
    flat_map (λ (r : YRecord). text_at (y_text letter r) (slice_get ls r.leaf)) rs

-- the X lines
abbrev pub x_texts : List Leaf → List XRecord → Bytes
x_texts ls rs = flat_map (λ (r : XRecord). text_at (x_text r) (slice_get ls r.leaf)) rs

-- the S lines
abbrev pub s_texts : List Leaf → List SRecord → Bytes
s_texts ls rs = flat_map (λ (r : SRecord). text_at (s_text r) (slice_get ls r.leaf)) rs

-- ---- the log

-- all of a list, or nothing
abbrev pub all_if : {A : Type 0} → Bool → List A → List A
all_if chosen xs = if chosen then xs else []

-- the lines of a letter, where it is chosen
abbrev pub texts_of_letter : List Leaf → Letters → Records → Letter → Bytes
texts_of_letter ls letters r Y = y_texts Y ls (all_if letters.y r.y.items)
texts_of_letter ls letters r N = y_texts N ls (all_if letters.n r.n.items)
texts_of_letter ls letters r X = x_texts ls (all_if letters.x r.x.items)
texts_of_letter ls letters r S = s_texts ls (all_if letters.s r.s.items)

-- the lines of the chosen letters: those of Y, then those of N, of X and of S
unfoldable pub log_text : List Leaf → Letters → Records → Bytes
log_text ls letters r =
    texts_of_letter ls letters r Y ++ texts_of_letter ls letters r N ++ texts_of_letter ls letters r X
    ++ texts_of_letter ls letters r S

-- ---- the output

-- the lines of values at outputs of top, which have these names
abbrev pub out_texts : List Word → List OutRecord → Bytes
out_texts outs rs =
    flat_map
    (λ (r : OutRecord). forms.out_line outs r.time (record { port = r.port; value = r.value })) rs
