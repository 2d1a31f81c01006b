-- A line of a cell of three dimensions, as it is written and as it is read.
use Rattle.std.specs.Prelude.{◌≡◌, Some, None, [], ◌∷◌, codes, pos, negsuc}
use Rattle.quantity.specs.Bytes.{Bytes}
use Rattle.quantity.specs.declared.value.Value.TheVariants.{Num}
use Rattle.text_forms.specs.declared.letter.Letter.TheVariants.{Y}
use Rattle.text_forms.specs.LogLine.{LogLine, given, moved, line_text, read_line}

-- a value given by the cell in row 0, column 12 and plane 3
abbrev pub given_line : LogLine
given_line =
    given Y 100 (record { name = codes "solid"; at = 0 ∷ 12 ∷ 3 ∷ [] }) (codes "out")
    (Num (negsuc 149999))

-- its text
abbrev pub given_text : Bytes
given_text = codes "Y / 00:00:00:100 / solid(0,12,3) / out / -1.50000"

-- the same cell, moved: its state, and its next time
abbrev pub moved_line : LogLine
moved_line =
    moved 100 (record { name = codes "solid"; at = 0 ∷ 12 ∷ 3 ∷ [] })
    (Some (Num (pos 100000))) (Some 200)

-- its text
abbrev pub moved_text : Bytes
moved_text = codes "S / 00:00:00:100 / solid(0,12,3) / 1.00000 / 00:00:00:200"

-- both are written and read back; a zero in front and a fourth coordinate are refused
pub record LinesAsSaid : Type 0 where
  pub given_is_written : line_text given_line ≡ given_text
  pub given_is_read : read_line given_text ≡ Some given_line
  pub moved_is_written : line_text moved_line ≡ moved_text
  pub moved_is_read : read_line moved_text ≡ Some moved_line
  pub zeros_in_front : read_line (codes "Y / 00:00:00:100 / solid(0,12,03) / out / -1.50000") ≡ None
  pub four_coordinates :
      read_line (codes "Y / 00:00:00:100 / solid(0,12,3,4) / out / -1.50000") ≡ None
