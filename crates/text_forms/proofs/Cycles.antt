-- The lines of a cycle's records, letter by letter.
use Rattle.std.proofs.Common.{◌≡◌, ℕ, Bool, true, false, cond, Option, Some, None, Result, Ok, Err}
use Rattle.std.proofs.Common.{List, [], ◌∷◌, ◌++◌, refl, sym, ap, ◌∙◌, map, append-nil}
use Rattle.std.proofs.Common.{append_assoc, slice_get}
use Rattle.std.specs.Prelude.{OnOk}
use Rattle.model_leaves.specs.declared.table.Model.{Model}
use Rattle.model_leaves.specs.Models.{tree_of}
use Rattle.model_leaves.specs.Leaves.{OfTree}
use Rattle.std.specs.List.{filter, filter_map, flat_map, cons_option}
use Rattle.std.specs.Option.{option_map}
use Rattle.std.proofs.lemmas.List.Elements.{filter-append}
use Rattle.std.proofs.lemmas.List.Folds.{flat_map-map}
use Rattle.std.proofs.lemmas.Grind.{flat_map-append}
use Rattle.quantity.specs.Bytes.{Bytes}
use Rattle.model_tree.specs.Tree.{Word, Tree, Leaf, leaves, outs_of}
use Rattle.run_model.specs.Run.{Cycle, PortRecord, StateRecord}
use Rattle.text_forms.specs.declared.letter.Letter.{Letter}
use Rattle.text_forms.specs.declared.letter.Letter.TheVariants.{Y, N, X, S}
use Rattle.text_forms.specs.Letters.{all_letters, has_letter}
use Rattle.text_forms.specs.LogLine.{LogLine, given, moved, letter_of, line_text}
use Rattle.text_forms.specs.Lines.{line_with_end, leaf_name, in_port_name, out_port_name, given_line}
use Rattle.text_forms.specs.Lines.{moved_line}
use Rattle.text_forms.specs.Lines.{lines_of_letter, cycle_lines, out_line, log_bytes, out_bytes}
use Rattle.text_forms.proofs.LetterBytes.{chosen_has}
use Rattle.text_forms.specs.declared.records.Letters.{Letters}
use Rattle.text_forms.specs.declared.records.YRecord.{YRecord}
use Rattle.text_forms.specs.declared.records.XRecord.{XRecord}
use Rattle.text_forms.specs.declared.records.SRecord.{SRecord}
use Rattle.text_forms.specs.declared.records.Records.{Records}
use Rattle.text_forms.specs.Held.{Holds, y_at, x_at, s_at, out_at}
use Rattle.text_forms.specs.Chosen.{is_chosen, letters_of}
use Rattle.text_forms.specs.RecordTexts.{text_at, y_text, y_texts, x_text, x_texts, s_text}
use Rattle.text_forms.specs.RecordTexts.{s_texts, all_if, texts_of_letter, log_text, out_texts}

-- ---- lines that are kept, and lines that are not

abbrev bytes_of : LogLine → Bytes
bytes_of l = line_with_end (line_text l)

abbrev is_kept : List ℕ → LogLine → Bool
is_kept cs l = has_letter cs (letter_of l)

abbrev written : List ℕ → List LogLine → Bytes
written cs lines = flat_map bytes_of (filter (is_kept cs) lines)

written-append : (cs : List ℕ) (xs ys : List LogLine)
    → written cs (xs ++ ys) ≡ written cs xs ++ written cs ys
written-append cs xs ys =
    ap (flat_map bytes_of) (filter-append (is_kept cs) xs ys)
    ∙ flat_map-append bytes_of (filter (is_kept cs) xs) (filter (is_kept cs) ys)

kept_line : (cs : List ℕ) (line : Leaf → LogLine) (o : Option Leaf) (more : List LogLine)
    → ((l : Leaf) → is_kept cs (line l) ≡ true)
    → written cs (cons_option (option_map line o) more)
    ≡ text_at (λ l. bytes_of (line l)) o ++ written cs more
kept_line cs line None more h = refl
kept_line cs line (Some l) more h =
    ap (λ b. flat_map bytes_of
    (cond b (line l ∷ filter (is_kept cs) more) (filter (is_kept cs) more))) (h l)

left_line : (cs : List ℕ) (line : Leaf → LogLine) (o : Option Leaf) (more : List LogLine)
    → ((l : Leaf) → is_kept cs (line l) ≡ false)
    → written cs (cons_option (option_map line o) more) ≡ written cs more
left_line cs line None more h = refl
left_line cs line (Some l) more h =
    ap (λ b. flat_map bytes_of
    (cond b (line l ∷ filter (is_kept cs) more) (filter (is_kept cs) more))) (h l)

-- ---- values that were given or reached a leaf

module _ (cs : List ℕ) (ls : List Leaf) (time : ℕ) (letter : Letter) (port : Leaf → ℕ → Word) where
  abbrev line : PortRecord → Leaf → LogLine
  line r l = given letter time (leaf_name l) (port l r.port) r.value

  abbrev texts : List PortRecord → Bytes
  texts rs =
      flat_map (λ (r : PortRecord). text_at (λ l. bytes_of (line r l)) (slice_get ls r.leaf)) rs

  given_kept : has_letter cs letter ≡ true → (rs : List PortRecord)
      → written cs (filter_map (given_line ls time letter port) rs) ≡ texts rs
  given_kept e [] = refl
  given_kept e (r ∷ rs) =
      kept_line cs (line r) (slice_get ls r.leaf) (filter_map (given_line ls time letter port) rs)
      (λ l. e)
      ∙ ap (λ bytes. text_at (λ l. bytes_of (line r l)) (slice_get ls r.leaf) ++ bytes)
      (given_kept e rs)

  given_left : has_letter cs letter ≡ false → (rs : List PortRecord)
      → written cs (filter_map (given_line ls time letter port) rs) ≡ []
  given_left e [] = refl
  given_left e (r ∷ rs) =
      left_line cs (line r) (slice_get ls r.leaf) (filter_map (given_line ls time letter port) rs)
      (λ l. e) ∙ given_left e rs

y_part : (cs : List ℕ) (ls : List Leaf) (time : ℕ) (letter : Letter) (b : Bool)
    → has_letter cs letter ≡ b → (rs : List PortRecord) (items : List YRecord)
    → items ≡ map (y_at time) rs
    → y_texts letter ls (all_if b items)
    ≡ written cs (filter_map (given_line ls time letter out_port_name) rs)
unfolding y_text
y_part cs ls time letter true e rs items is =
    ap (y_texts letter ls) is
    ∙ flat_map-map (λ (r : YRecord). text_at (y_text letter r) (slice_get ls r.leaf)) (y_at time) rs
    ∙ sym (given_kept cs ls time letter out_port_name e rs)
y_part cs ls time letter false e rs items is = sym (given_left cs ls time letter out_port_name e rs)

x_part : (cs : List ℕ) (ls : List Leaf) (time : ℕ) (b : Bool) → has_letter cs X ≡ b
    → (rs : List PortRecord) (items : List XRecord) → items ≡ map (x_at time) rs
    → x_texts ls (all_if b items) ≡ written cs (filter_map (given_line ls time X in_port_name) rs)
unfolding x_text
x_part cs ls time true e rs items is =
    ap (x_texts ls) is
    ∙ flat_map-map (λ (r : XRecord). text_at (x_text r) (slice_get ls r.leaf)) (x_at time) rs
    ∙ sym (given_kept cs ls time X in_port_name e rs)
x_part cs ls time false e rs items is = sym (given_left cs ls time X in_port_name e rs)

-- ---- leaves that moved

module _ (cs : List ℕ) (ls : List Leaf) (time : ℕ) where
  abbrev moved_at : StateRecord → Leaf → LogLine
  moved_at r l = moved time (leaf_name l) r.value r.next

  moved_kept : has_letter cs S ≡ true → (rs : List StateRecord)
      → written cs (filter_map (moved_line ls time) rs)
      ≡ flat_map (λ (r : StateRecord). text_at (λ l. bytes_of (moved_at r l))
      (slice_get ls r.leaf)) rs
  moved_kept e [] = refl
  moved_kept e (r ∷ rs) =
      kept_line cs (moved_at r) (slice_get ls r.leaf) (filter_map (moved_line ls time) rs) (λ l. e)
      ∙ ap (λ bytes. text_at (λ l. bytes_of (moved_at r l)) (slice_get ls r.leaf) ++ bytes)
      (moved_kept e rs)

  moved_left : has_letter cs S ≡ false → (rs : List StateRecord)
      → written cs (filter_map (moved_line ls time) rs) ≡ []
  moved_left e [] = refl
  moved_left e (r ∷ rs) =
      left_line cs (moved_at r) (slice_get ls r.leaf) (filter_map (moved_line ls time) rs) (λ l. e)
      ∙ moved_left e rs

s_part : (cs : List ℕ) (ls : List Leaf) (time : ℕ) (b : Bool) → has_letter cs S ≡ b
    → (rs : List StateRecord) (items : List SRecord) → items ≡ map (s_at time) rs
    → s_texts ls (all_if b items) ≡ written cs (filter_map (moved_line ls time) rs)
unfolding s_text
s_part cs ls time true e rs items is =
    ap (s_texts ls) is
    ∙ flat_map-map (λ (r : SRecord). text_at (s_text r) (slice_get ls r.leaf)) (s_at time) rs
    ∙ sym (moved_kept cs ls time e rs)
s_part cs ls time false e rs items is = sym (moved_left cs ls time e rs)

-- ---- the whole cycle

has_chosen : (letters : Letters) (k : Letter)
    → has_letter (letters_of letters) k ≡ is_chosen letters k
has_chosen letters k = chosen_has (is_chosen letters) k

-- what is written of each letter's lines is what is written of all
each_written : (cs : List ℕ) (lines : Letter → List LogLine) (text : Letter → Bytes)
    → ((k : Letter) → text k ≡ written cs (lines k)) → (ks : List Letter)
    → flat_map text ks ≡ written cs (flat_map lines ks)
each_written cs lines text each [] = refl
each_written cs lines text each (k ∷ ks) =
    ap (λ (bytes : Bytes). bytes ++ flat_map text ks) (each k)
    ∙ ap (λ (bytes : Bytes). written cs (lines k) ++ bytes) (each_written cs lines text each ks)
    ∙ sym (written-append cs (lines k) (flat_map lines ks))

module _ (ls : List Leaf) (letters : Letters) (r : Records) where
  letter_is : (c : Cycle) → Holds r c → (k : Letter)
      → texts_of_letter ls letters r k ≡ written (letters_of letters) (lines_of_letter ls c k)
  letter_is c h Y =
      y_part (letters_of letters) ls c.time Y letters.y (has_chosen letters Y) c.y r.y.items h.y
  letter_is c h N =
      y_part (letters_of letters) ls c.time N letters.n (has_chosen letters N) c.n r.n.items h.n
  letter_is c h X =
      x_part (letters_of letters) ls c.time letters.x (has_chosen letters X) c.x r.x.items h.x
  letter_is c h S =
      s_part (letters_of letters) ls c.time letters.s (has_chosen letters S) c.s r.s.items h.s

  in_turn : log_text ls letters r ≡ flat_map (texts_of_letter ls letters r) all_letters
  unfolding log_text
  in_turn = simp (append_assoc, append-nil)

pub log_is : (tree : Tree) (letters : Letters) (r : Records) (c : Cycle) → Holds r c
    → log_text (leaves tree) letters r ≡ log_bytes tree (letters_of letters) (c ∷ [])
log_is tree letters r c h =
    let ls = leaves tree in
    let cs = letters_of letters in
    in_turn ls letters r
    ∙ each_written cs (lines_of_letter ls c) (texts_of_letter ls letters r) (letter_is ls letters r c h)
    all_letters ∙ ap (written cs) (sym (append-nil (cycle_lines ls c)))

pub out_is : (tree : Tree) (r : Records) (c : Cycle) → Holds r c
    → out_texts (outs_of tree) r.out.items ≡ out_bytes tree (c ∷ [])
out_is tree r c h =
    ap (out_texts (outs_of tree)) h.out
    ∙ flat_map-map (λ r. out_line (outs_of tree) r.time (record { port = r.port; value = r.value }))
    (out_at c.time) c.out
    ∙ sym (append-nil (flat_map (out_line (outs_of tree) c.time) c.out))

-- ---- what the calls append

pub logged : {A E : Type 0} (r : Result A E) (m : Model) (letters : Letters) (records : Records) (old new : Bytes) → OnOk r (OfTree m (λ tree. new ≡ old ++ log_text (leaves tree) letters records)) → OnOk r ((c : Cycle) → Holds records c → OfTree m (λ tree. new ≡ old ++ log_bytes tree (letters_of letters) (c ∷ [])))
logged (Ok x) m letters records old new h =
    λ c k settings. h settings
    ∙ ap (λ (bytes : Bytes). old ++ bytes) (log_is (tree_of m settings) letters records c k)
logged (Err e) m letters records old new h = tt

pub put_out : {A E : Type 0} (r : Result A E) (m : Model) (records : Records) (old new : Bytes)
    → OnOk r (new ≡ old ++ out_texts m.top.outs.items records.out.items)
    → OnOk r ((c : Cycle) → Holds records c
    → OfTree m (λ tree. new ≡ old ++ out_bytes tree (c ∷ [])))
put_out (Ok x) m records old new h =
    λ c k settings. h
    ∙ ap (λ (bytes : Bytes). old ++ bytes) (out_is (tree_of m settings) records c k)
put_out (Err e) m records old new h = tt
