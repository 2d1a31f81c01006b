-- A file as lines: numbered from 1, without comments and outer blanks.
use Rattle.std.specs.Prelude.{ℕ, ◌==◌, not, Option, List, [], ◌∷◌, map, reverse, if◌then◌else◌, ◌++◌}
use Rattle.std.specs.List.{filter, slice_split, before_first, enumerate_from}
use Rattle.std.specs.Str.{str_to_ascii_lowercase}
use Rattle.quantity.specs.ByteNames.{carriage_return, line_feed, percent_sign}
pub use Rattle.quantity.specs.Bytes.{Files}
use Rattle.quantity.specs.Bytes.{Bytes, is_empty, is_byte, without_outer_blanks}

-- a line of a file: its number, from 1, and its text
pub record Line : Type 0 where
  pub number : ℕ
  pub text : Bytes

-- without the byte at the head, where it is this one
abbrev pub without_first : ℕ → Bytes → Bytes
without_first c [] = []
without_first c (d ∷ ds) = if c == d then ds else d ∷ ds

-- without a carriage return at the end
abbrev pub without_return : Bytes → Bytes
without_return bytes = reverse (without_first carriage_return (reverse bytes))

-- what stands before the first %
abbrev pub without_comment : Bytes → Bytes
without_comment bytes = before_first (is_byte percent_sign) bytes

-- the text of a line: without its comment and its outer blanks
abbrev pub text_of_line : Bytes → Bytes
text_of_line bytes = without_outer_blanks (without_comment (without_return bytes))

-- all lines of a file in order
abbrev pub lines_of : Bytes → List Line
lines_of bytes =
    map (λ (p : ℕ × Bytes). record { number = p.0; text = text_of_line p.1 })
    (enumerate_from 1 (slice_split (is_byte line_feed) bytes))

-- the lines that aren't empty
abbrev pub filled_lines : Bytes → List Line
filled_lines bytes = filter (λ (l : Line). not (is_empty l.text)) (lines_of bytes)

-- in lower-case letters
abbrev pub in_lower_case : Bytes → Bytes
in_lower_case text = str_to_ascii_lowercase text

-- each line with its end
abbrev pub file : List Bytes → Bytes
file [] = []
file (l ∷ ls) = l ++ (line_feed ∷ file ls)
