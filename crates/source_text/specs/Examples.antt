-- Texts that are read, and such as aren't.
use Rattle.std.specs.Prelude.{◌≡◌, ℕ, Some, None, List, ◌∷◌, pos, negsuc, neg_ℤ, codes, ℤ, Option, []}
use Rattle.std.specs.List.{slice_split}
use Rattle.quantity.specs.ByteNames.{colon}
use Rattle.quantity.specs.Bytes.{Bytes, is_byte, without_outer_blanks, words}
use Rattle.source_text.specs.Lines.{Line, text_of_line, lines_of, filled_lines, in_lower_case}
use Rattle.source_text.specs.Tuples.{NamedTuple, tuple, named_tuple, parts_of}

-- a line of this number and text
abbrev pub line : ℕ → Bytes → Line
line number text = record { number = number; text = text }

-- a name and the numbers behind it
abbrev pub found_tuple : Bytes → List ℤ → Option NamedTuple
found_tuple name place = Some (record { name = name; place = place })

-- comments, outer blanks and a carriage return at the end go
pub record LinesAsSaid : Type 0 where
  pub outer_blanks : without_outer_blanks (codes " \t a b\t ") ≡ codes "a b"
  pub blanks_alone : without_outer_blanks (codes " \t") ≡ []
  pub nothing : without_outer_blanks [] ≡ []
  pub comment : text_of_line (codes "  type : cell  % its kind") ≡ codes "type : cell"
  pub two_signs : text_of_line (codes "a %b % c") ≡ codes "a"
  pub carriage_return_at_the_end : text_of_line (codes "\tc \r") ≡ codes "c"
  pub two_at_the_end : text_of_line (codes "a\rb\r\r") ≡ codes "a\rb\r"
  pub comment_alone : text_of_line (codes "% all of it\r") ≡ []
  pub lines : lines_of (codes "a %b\n \t\n %\n\tc \r")
      ≡ line 1 (codes "a") ∷ line 2 [] ∷ line 3 [] ∷ line 4 (codes "c") ∷ []
  pub filled : filled_lines (codes "\n\na") ≡ line 3 (codes "a") ∷ []
  pub lower_case : in_lower_case (codes "Type : A1") ≡ codes "type : a1"

-- words stand between blanks, parts between separators
pub record WordsAsSaid : Type 0 where
  pub three_words : words (codes " 0:0:0:1\tp   2 ") ≡ codes "0:0:0:1" ∷ codes "p" ∷ codes "2" ∷ []
  pub one_word : words (codes "left") ≡ codes "left" ∷ []
  pub no_word : words (codes " \t") ≡ []
  pub empty : words [] ≡ []
  pub three_parts : slice_split (is_byte colon) (codes "a:b:c")
      ≡ codes "a" ∷ codes "b" ∷ codes "c" ∷ []
  pub an_empty_part : slice_split (is_byte colon) (codes "a:") ≡ codes "a" ∷ [] ∷ []
  pub one_part : slice_split (is_byte colon) (codes "a") ≡ codes "a" ∷ []

-- two or three whole numbers of at most seven digits
pub record TuplesAsSaid : Type 0 where
  pub blanks_around : tuple (codes "( -1 , 2 )") ≡ Some (negsuc 0 ∷ pos 2 ∷ [])
  pub three_numbers : tuple (codes "(1,2,\t+3)") ≡ Some (pos 1 ∷ pos 2 ∷ pos 3 ∷ [])
  pub seven_digits : tuple (codes "(0009999,-9999999)") ≡ Some (pos 9999 ∷ neg_ℤ (pos 9999999) ∷ [])
  pub blank_behind_a_sign : tuple (codes "(- 1,2)") ≡ None
  pub one_number : tuple (codes "(1)") ≡ None
  pub no_number : tuple (codes "()") ≡ None
  pub four_numbers : tuple (codes "(1,2,3,4)") ≡ None
  pub comma_at_the_end : tuple (codes "(1,2,)") ≡ None
  pub two_commas : tuple (codes "(1,,2)") ≡ None
  pub eight_digits : tuple (codes "(12345678,0)") ≡ None
  pub not_closed : tuple (codes "(1,2") ≡ None
  pub not_opened : tuple (codes "1,2)") ≡ None
  pub blank_before : tuple (codes " (1,2)") ≡ None
  pub blank_behind : tuple (codes "(1,2) ") ≡ None
  pub closed_twice : tuple (codes "(1,2))") ≡ None
  pub one_parenthesis : tuple (codes "(") ≡ None
  pub empty : tuple [] ≡ None
  pub behind_a_name : named_tuple
      (codes "line(0,1") ≡ found_tuple (codes "line") (pos 0 ∷ pos 1 ∷ [])
  pub no_name : named_tuple (codes "(2,-3") ≡ found_tuple [] (pos 2 ∷ negsuc 2 ∷ [])
  pub name_and_closed : named_tuple (codes "line(0,1)") ≡ None
  pub name_alone : named_tuple (codes "line") ≡ None
  pub touching : parts_of (codes "(0,1)(0,2) ") ≡ Some (codes "(0,1" ∷ codes "(0,2" ∷ [])
  pub no_part : parts_of (codes "\t") ≡ Some []
  pub something_behind : parts_of (codes "(0,1) x") ≡ None
