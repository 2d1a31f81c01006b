-- A log line: its form, which no model decides, its text and the text read back.
use Rattle.std.specs.Prelude.{ℕ, Bool, true, false, not, ◌&&◌, ◌||◌, ◌==◌, nat_le, unsigned_abs}
use Rattle.std.specs.Prelude.{◌^◌}
use Rattle.std.specs.Prelude.{Option, Some, None, List, [], ◌∷◌, ◌++◌, length, map, if◌then◌else◌}
use Rattle.std.specs.Prelude.{codes}
use Rattle.std.specs.List.{slice_split, list_all, filter, join_with_byte}
use Rattle.std.specs.Str.{bytes_eq}
use Rattle.std.specs.Str.Parse.{digits_value}
use Rattle.quantity.specs.declared.bounds.TheConstants.{MAX_TIME}
use Rattle.quantity.specs.declared.value.Value.{Value}
use Rattle.quantity.specs.declared.value.Value.TheVariants.{Undefined, Num}
use Rattle.quantity.specs.Bytes.{Bytes}
use Rattle.quantity.specs.Names.{is_name}
use Rattle.quantity.specs.ValueTexts.{text5, guessed_value}
use Rattle.quantity.specs.Times.{time_text, time_of}
use Rattle.quantity.specs.Written.{if_written}
use Rattle.model_tree.specs.Tree.{Word}
pub use Rattle.model_leaves.specs.LeafTexts.{at_text}
use Rattle.text_forms.specs.declared.letter.Letter.{Letter}
use Rattle.text_forms.specs.declared.letter.Letter.TheVariants.{S}
use Rattle.text_forms.specs.declared.letter.Tells.{Tells}
use Rattle.text_forms.specs.declared.letter.Tells.TheVariants.{Given, Moved}
use Rattle.text_forms.specs.Letters.{told_by, letter_byte, letter_named}

-- a leaf's name; a cell's has the group's name and two or three coordinates, an atomic leaf's has
-- none
pub record LeafName : Type 0 where
  pub name : Word
  pub at : List ℕ

-- a value given at a port, by its letter, or a leaf that moved
pub data LogLine : Type 0 where
  given : (letter : Letter) (time : ℕ) (leaf : LeafName) (port : Word) (value : Value) → LogLine
  moved : (time : ℕ) (leaf : LeafName) (state : Option Value) (next : Option ℕ) → LogLine

-- ---- what is written

-- a leaf's name with its coordinates
abbrev pub leaf_name_text : LeafName → Bytes
leaf_name_text l = l.name ++ at_text l.at

-- a value, or `-`
abbrev pub state_text : Option Value → Bytes
state_text None = codes "-"
state_text (Some v) = text5 v

-- a time, or `...`
abbrev pub next_text : Option ℕ → Bytes
next_text None = codes "..."
next_text (Some t) = time_text t

-- the letter of a line: S where a leaf moved
abbrev pub letter_of : LogLine → Letter
letter_of (given letter time leaf port value) = letter
letter_of (moved time leaf state next) = S

-- a letter as it is written
abbrev pub letter_text : Letter → Bytes
letter_text letter = letter_byte letter ∷ []

-- the five parts of a line
abbrev pub parts_of : LogLine → List Bytes
parts_of (given letter time leaf port value) =
    letter_text letter ∷ time_text time ∷ leaf_name_text leaf ∷ port ∷ text5 value ∷ []
parts_of (moved time leaf state next) =
    letter_text S ∷ time_text time ∷ leaf_name_text leaf ∷ state_text state ∷ next_text next ∷ []

-- a stroke between each two
abbrev pub with_strokes : List Bytes → List Bytes
with_strokes [] = []
with_strokes (x ∷ []) = x ∷ []
with_strokes (x ∷ y ∷ ys) = x ∷ codes "/" ∷ with_strokes (y ∷ ys)

-- the text of a line, without its end
abbrev pub line_text : LogLine → Bytes
line_text l = join_with_byte 32 (with_strokes (parts_of l))

-- ---- which lines there are

-- a name, and no coordinates, two or three
abbrev pub is_leaf : LeafName → Bool
is_leaf l =
    is_name l.name && list_all (λ n. nat_le n 1048575) l.at
    && ((length l.at == 0) || (length l.at == 2) || (length l.at == 3))

-- the leaf is a cell
abbrev pub has_place : LeafName → Bool
has_place l = not (length l.at == 0)

-- at most 10^10, or `?`
abbrev pub is_value : Value → Bool
is_value Undefined = true
is_value (Num x) = nat_le (unsigned_abs x) (10 ^ 15)

-- at most 199:59:59:998
abbrev pub is_time : ℕ → Bool
is_time t = nat_le t MAX_TIME

-- whether lines that tell this say a value of the leaf
abbrev pub is_told_of : Tells → LeafName → Bool
is_told_of (Given false) l = true
is_told_of (Given true) l = has_place l
is_told_of Moved l = false

-- whether lines of this letter say a value of the leaf: N of cells alone, and S of none
abbrev pub is_letter : Letter → LeafName → Bool
is_letter letter l = is_told_of (told_by letter) l

-- a cell has a value, and a box none
abbrev pub is_state : LeafName → Option Value → Bool
is_state l None = not (has_place l)
is_state l (Some v) = has_place l && is_value v

-- a time or none
abbrev pub is_next : Option ℕ → Bool
is_next None = true
is_next (Some t) = is_time t

-- a line that may stand in a log
abbrev pub is_line : LogLine → Bool
is_line (given letter time leaf port value) =
    is_letter letter leaf && is_time time && is_leaf leaf && is_name port && is_value value
is_line (moved time leaf state next) =
    is_time time && is_leaf leaf && is_state leaf state && is_next next

-- ---- a line read back: its parts stand between the strokes

-- the numbers between commas
abbrev pub at_in : Bytes → List ℕ
at_in text = map (digits_value 10) (slice_split (λ c. c == 44) (filter (λ c. not (c == 41)) text))

-- from a name and its coordinates
abbrev pub leaf_of : List Bytes → LeafName
leaf_of (name ∷ at ∷ []) = record { name = name; at = at_in at }
leaf_of (name ∷ parts) = record { name = name; at = [] }
leaf_of [] = record { name = []; at = [] }

-- a leaf's name from a text
abbrev pub leaf_in : Bytes → LeafName
leaf_in text = leaf_of (slice_split (λ c. c == 40) text)

-- from the numbers between colons
abbrev pub guessed_time : Bytes → Option ℕ
guessed_time text = time_of (slice_split (λ c. c == 58) text)

-- where its time and value are read
abbrev pub given_in : Letter → Option ℕ → LeafName → Word → Option Value → Option LogLine
given_in letter (Some t) leaf port (Some v) = Some (given letter t leaf port v)
given_in letter t leaf port v = None

-- where its time is read
abbrev pub moved_in : Option ℕ → LeafName → Bytes → Bytes → Option LogLine
moved_in None leaf state next = None
moved_in (Some t) leaf state next = Some (moved t leaf (guessed_value state) (guessed_time next))

-- from what it tells, its letter, and what its other parts say
abbrev pub told_in : Tells → Letter → Option ℕ → LeafName → Bytes → Bytes → Option LogLine
told_in (Given of_cells_alone) letter t leaf a b = given_in letter t leaf a (guessed_value b)
told_in Moved letter t leaf a b = moved_in t leaf a b

-- from its letter, and what its other parts say
abbrev pub lettered_in : Option Letter → Option ℕ → LeafName → Bytes → Bytes → Option LogLine
lettered_in None t leaf a b = None
lettered_in (Some letter) t leaf a b = told_in (told_by letter) letter t leaf a b

-- from its five parts
abbrev pub line_in : List Bytes → Option LogLine
line_in ((c ∷ []) ∷ t ∷ leaf ∷ a ∷ b ∷ []) =
    lettered_in (letter_named c) (guessed_time t) (leaf_in leaf) a b
line_in parts = None

-- where it may stand in a log
abbrev pub if_line : Option LogLine → Option LogLine
if_line None = None
if_line (Some l) = if is_line l then Some l else None

-- what stands between blanks, without the strokes
abbrev pub parts_in : Bytes → List Bytes
parts_in text = filter (λ w. not (bytes_eq w (codes "/"))) (slice_split (λ c. c == 32) text)

-- the line that a text is, if it is one
abbrev pub read_line : Bytes → Option LogLine
read_line text = if_written line_text text (if_line (line_in (parts_in text)))
