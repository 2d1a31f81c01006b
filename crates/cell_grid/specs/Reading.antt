-- Private: values that are read one after another.
use Rattle.std.specs.Prelude.{◌≡◌, ℕ, ◌==◌, false, nat_eq, codes, Option, Some, None, Result, MatchResult, List, ◌∷◌, map, length, ◌++◌}
use Rattle.std.specs.List.{flat_map, slice_split, starts_with}
use Rattle.std.specs.Option.{option_map, option_and_then}
use Rattle.std.specs.Bool.{then_some}
use Rattle.quantity.specs.declared.value.Value.{Value}
use Rattle.quantity.specs.Bytes.{Bytes, is_byte, words, all_there}
use Rattle.quantity.specs.Literals.{value_in}
use Rattle.source_text.specs.Lines.{text_of_line}
use Rattle.quantity.specs.declared.place.Place.{Place}
use Rattle.cell_grid.specs.declared.initial.InitialRefusal.{InitialRefusal}
use Rattle.cell_grid.specs.declared.initial.InitialRefusal.TheVariants.{BadInitial}
use Rattle.cell_grid.specs.Space.{Space}
use Rattle.cell_grid.specs.ZoneTexts.{ranges_of, corner_in}

-- all values, where there are so many and none is missing
abbrev pub all_of : ℕ → List (Option Value) → Option (List Value)
all_of n vs = option_and_then (λ values. then_some (length values == n) values) (all_there vs)

-- the values of so many words
abbrev pub values_for : ℕ → List Bytes → Option (List Value)
values_for n texts = all_of n (map value_in texts)

-- the words of a file
abbrev pub file_words : Bytes → List Bytes
file_words bytes = flat_map (λ line. words (text_of_line line)) (slice_split (is_byte 10) bytes)

-- the words of a line, and those of the lines behind it
abbrev pub words_left : Bytes → Bytes → List Bytes
words_left line behind = words line ++ file_words behind

-- the values that were read are in the cells, or the text is a bad one
abbrev pub ReadsInto : {U : Type 0} → Option (List Value) → List Value
    → Result U InitialRefusal → Type 0
ReadsInto read cells result =
    MatchResult result (λ _. read ≡ Some cells)
    (λ refusal. (refusal ≡ BadInitial) × (read ≡ None))

-- what was read is laid over the values, which makes these cells; or the text is a bad one
abbrev pub LaysRead : {U A : Type 0} → (A → List Value) → Option A → List Value
    → Result U InitialRefusal → Type 0
LaysRead laid read cells result =
    MatchResult result (λ _. option_map laid read ≡ Some cells)
    (λ refusal. (refusal ≡ BadInitial) × (read ≡ None))

-- the first part doesn't begin with two dots
abbrev pub NoEndFirst : Option (List Bytes) → Type 0
NoEndFirst parts =
    (part : Bytes) (rest : List Bytes) → parts ≡ Some (part ∷ rest)
    → starts_with nat_eq part (codes "..") ≡ false

-- the ranges of parts of a zone's items
abbrev pub ranges_of_parts : Space → Option (List Bytes) → Option (List (Place × Place))
ranges_of_parts space parts =
    option_and_then ranges_of
    (option_and_then (λ texts. all_there (map (corner_in space) texts)) parts)

-- the ranges of a part and of those behind it
abbrev pub ranges_from : Space → Bytes → Option (List Bytes) → Option (List (Place × Place))
ranges_from space part parts = ranges_of_parts space (option_map (λ ps. part ∷ ps) parts)
