-- Private: how a log line is read from left to right.
use Rattle.std.specs.Prelude.{ℕ, ◌+◌, Bool, not, ◌&&◌, ◌==◌, Option, Some, None, List, [], ◌∷◌, length, if◌then◌else◌, codes, decimal}
use Rattle.std.specs.List.{before_first, after_first}
use Rattle.std.specs.Option.{option_map, option_and_then}
use Rattle.std.specs.Str.{bytes_eq}
use Rattle.quantity.specs.declared.value.Value.{Value}
use Rattle.quantity.specs.Bytes.{Bytes, is_byte}
use Rattle.quantity.specs.Digits.{whole_number}
use Rattle.quantity.specs.Names.{is_name}
use Rattle.quantity.specs.Times.{read_time}
use Rattle.quantity.specs.ReadBack.{read_text5}
use Rattle.quantity.specs.Written.{for_some, if_written, number_at_most}
use Rattle.text_forms.specs.declared.letter.Letter.{Letter}
use Rattle.text_forms.specs.declared.letter.Tells.{Tells}
use Rattle.text_forms.specs.declared.letter.Tells.TheVariants.{Given, Moved}
use Rattle.text_forms.specs.Letters.{told_by, letter_named}
use Rattle.text_forms.specs.LogLine.{LeafName, LogLine, given, moved, has_place, is_letter}

-- ---- the parts

-- what follows a stroke and a blank
abbrev pub behind_stroke : Bytes → Option Bytes
behind_stroke [] = None
behind_stroke (a ∷ []) = None
behind_stroke (a ∷ b ∷ rest) = if (a == 47) && (b == 32) then Some rest else None

-- what stands before the first blank, and after it
abbrev pub first_word : Bytes → Bytes
first_word text = before_first (is_byte 32) text

-- what follows the next stroke
abbrev pub next_part : Bytes → Option Bytes
next_part text = behind_stroke (after_first (is_byte 32) text)

-- the five parts of a line
pub record Parts : Type 0 where
  pub letter : Bytes
  pub time : Bytes
  pub leaf : Bytes
  pub first : Bytes
  pub second : Bytes

-- the five parts of a line
abbrev pub cut_parts : Bytes → Option Parts
cut_parts text =
    for_some (next_part text) (λ a. for_some (next_part a) (λ b.
    for_some (next_part b) (λ c. for_some (next_part c) (λ d.
    Some (record {
      letter = first_word text;
      time = first_word a;
      leaf = first_word b;
      first = first_word c;
      second = d;
    })))))

-- ---- a leaf

-- a number as it is written, at most 1048575
abbrev pub coordinate : Bytes → Option ℕ
coordinate text =
    if_written decimal text (option_and_then (number_at_most 1048575) (whole_number 7 text))

-- three coordinates, or two where nothing stands behind the second
abbrev pub with_plane : ℕ → ℕ → Bool → Bytes → Option (List ℕ)
with_plane row column ends plane =
    if ends
    then Some (row ∷ column ∷ [])
    else option_map (λ k. row ∷ column ∷ k ∷ []) (coordinate plane)

-- two or three coordinates between commas
abbrev pub place_in : Bytes → Option (List ℕ)
place_in text =
    let rest = after_first (is_byte 44) text in
    let column = before_first (is_byte 44) rest in
    for_some (coordinate (before_first (is_byte 44) text)) (λ i. for_some (coordinate column) (λ j.
    with_plane i j (length column == length rest) (after_first (is_byte 44) rest)))

-- what stands before the parenthesis that ends a text
abbrev pub before_end : Bytes → Option Bytes
before_end text =
    let inner = before_first (is_byte 41) text in
    if length inner + 1 == length text then Some inner else None

-- a leaf's name with its coordinates
abbrev pub with_place : Bytes → Option (List ℕ) → Option LeafName
with_place name at = option_map (λ ns. record { name = name; at = ns }) at

-- the coordinates behind a name, where it has any
abbrev pub at_in : Bool → Bytes → Option (List ℕ)
at_in ends rest = if ends then Some [] else option_and_then place_in (before_end rest)

-- the leaf of a name and what follows it
abbrev pub named_leaf : Bytes → Bool → Bytes → Option LeafName
named_leaf name ends rest = with_place name (at_in ends rest)

-- a name, alone or with coordinates
abbrev pub read_leaf : Bytes → Option LeafName
read_leaf text =
    let name = before_first (is_byte 40) text in
    if is_name name
    then named_leaf name (length name == length text) (after_first (is_byte 40) text)
    else None

-- ---- the line

-- a value, or none
abbrev pub read_state : Bytes → Option (Option Value)
read_state text = if bytes_eq text (codes "-") then Some None else option_map Some (read_text5 text)

-- a time, or none
abbrev pub read_next : Bytes → Option (Option ℕ)
read_next text = if bytes_eq text (codes "...") then Some None else option_map Some (read_time text)

-- the line of a letter that values have
abbrev pub given_as : Letter → ℕ → LeafName → Bytes → Value → Option LogLine
given_as letter t l port v = if is_letter letter l then Some (given letter t l port v) else None

-- a cell has a value, and an atomic component none
abbrev pub agrees : LeafName → Option Value → Bool
agrees l None = not (has_place l)
agrees l (Some v) = has_place l

-- the line of a leaf that moved, where it has such a state
abbrev pub moved_as : ℕ → LeafName → Option Value → Option ℕ → Option LogLine
moved_as t l s n = if agrees l s then Some (moved t l s n) else None

-- the line of a value at a port
abbrev pub given_line : Letter → Parts → Option LogLine
given_line letter p =
    for_some (read_time p.time) (λ t. for_some (read_leaf p.leaf) (λ l.
    for_some (read_text5 p.second) (λ v.
    if is_name p.first then given_as letter t l p.first v else None)))

-- the line of a leaf that moved
abbrev pub moved_line : Parts → Option LogLine
moved_line p =
    for_some (read_time p.time) (λ t. for_some (read_leaf p.leaf) (λ l.
    for_some (read_state p.first) (λ s. for_some (read_next p.second) (λ n.
    moved_as t l s n))))

-- the line that tells this
abbrev pub told_line : Tells → Letter → Parts → Option LogLine
told_line (Given of_cells_alone) letter p = given_line letter p
told_line Moved letter p = moved_line p

-- the line of a letter
abbrev pub one_letter : Letter → Parts → Option LogLine
one_letter letter p = told_line (told_by letter) letter p

-- the line of what stands in the letter's place
abbrev pub line_by : Bytes → Parts → Option LogLine
line_by [] p = None
line_by (c ∷ []) p = for_some (letter_named c) (λ letter. one_letter letter p)
line_by (c ∷ d ∷ more) p = None

-- the line that a text is, read from left to right
abbrev pub strict_line : Bytes → Option LogLine
strict_line text = for_some (cut_parts text) (λ p. line_by p.letter p)
