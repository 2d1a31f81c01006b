-- Sections stand on the texts of lines alone, and comments and carriage returns are no part of
-- these.
use Rattle.std.specs.Prelude.{◌≡◌, ℕ, ◌<◌, true, false, List, [], ◌∷◌, ◌++◌, map, All, ⊤}
use Rattle.std.specs.List.{list_any, list_all}
use Rattle.std.specs.declared.result.Result.{Result}
use Rattle.std.specs.declared.result.Result.TheVariants.{Ok, Err}
use Rattle.quantity.specs.ByteNames.{carriage_return, percent_sign}
use Rattle.quantity.specs.Bytes.{Bytes, is_blank, is_byte}
use Rattle.source_text.specs.Lines.{in_lower_case, lines_of, text_of_line, without_return, without_comment}
use Rattle.ma_lines.specs.declared.section.Entry.{Entry}
use Rattle.ma_lines.specs.declared.section.LineRefusal.{LineRefusal}
use Rattle.ma_lines.specs.declared.section.LineRefusal.TheVariants.{BadLine, DuplicateSection, Memory}
use Rattle.ma_lines.specs.Sections.{Section, is_allowed, sections_of}

-- files with the same lines have the same sections
abbrev pub StandsOnLines : Type 0
StandsOnLines = (a b : Bytes) → lines_of a ≡ lines_of b → sections_of a ≡ sections_of b

-- a carriage return behind a line is dropped
abbrev pub DropsReturns : Type 0
DropsReturns = (line : Bytes) → without_return (line ++ carriage_return ∷ []) ≡ line

-- what stands behind the first % is dropped, whatever it is
abbrev pub DropsComments : Type 0
DropsComments =
    (line more : Bytes) → list_any (is_byte percent_sign) line ≡ false
    → without_comment (line ++ percent_sign ∷ more) ≡ line

-- ---- but for the numbers of lines

-- an entry without its line
abbrev pub unnumbered_entry : Entry → Entry
unnumbered_entry e = record { line = 0; key = e.key; value = e.value }

-- a section without its lines
abbrev pub unnumbered_section : Section → Section
unnumbered_section s = record { line = 0; name = s.name; entries = map unnumbered_entry s.entries }

-- a refusal without its line
abbrev pub unnumbered_refusal : LineRefusal → LineRefusal
unnumbered_refusal (BadLine line) = BadLine 0
unnumbered_refusal (DuplicateSection line) = DuplicateSection 0
unnumbered_refusal Memory = Memory

-- what is read, without lines
abbrev pub without_line_numbers : Result (List Section) LineRefusal
    → Result (List Section) LineRefusal
without_line_numbers (Ok ss) = Ok (map unnumbered_section ss)
without_line_numbers (Err why) = Err (unnumbered_refusal why)

-- a line that is empty, or has only a comment, changes nothing but the numbers of the lines behind
-- it
pub record SkipsEmptyLines : Type 0 where
  pub between : (before line after : Bytes) → list_any (is_byte 10) line ≡ false
      → text_of_line line ≡ []
      → without_line_numbers (sections_of (before ++ 10 ∷ (line ++ 10 ∷ after)))
      ≡ without_line_numbers (sections_of (before ++ 10 ∷ after))
  pub above : (line after : Bytes) → list_any (is_byte 10) line ≡ false → text_of_line line ≡ []
      → without_line_numbers (sections_of (line ++ 10 ∷ after))
      ≡ without_line_numbers (sections_of after)

-- ---- letters

-- an entry whose value is in small letters
abbrev pub folded_entry : Entry → Entry
folded_entry e = record { line = e.line; key = e.key; value = in_lower_case e.value }

-- a section whose values are in small letters
abbrev pub folded_section : Section → Section
folded_section s = record { line = s.line; name = s.name; entries = map folded_entry s.entries }

-- what is read, with values in small letters
abbrev pub with_folded_values : Result (List Section) LineRefusal
    → Result (List Section) LineRefusal
with_folded_values (Ok ss) = Ok (map folded_section ss)
with_folded_values (Err why) = Err why

-- in lower-case letters a file has the same sections, but for the letters of the values that keep
-- theirs
abbrev pub FoldsLetters : Type 0
FoldsLetters =
    (bytes : Bytes) → sections_of (in_lower_case bytes) ≡ with_folded_values (sections_of bytes)

-- ---- texts of lines, and blanks

-- lines with one text stand for one another
abbrev pub StandsOnTexts : Type 0
StandsOnTexts =
    (before line other after : Bytes) → list_any (is_byte 10) line ≡ false
    → list_any (is_byte 10) other ≡ false → text_of_line line ≡ text_of_line other
    → sections_of (before ++ 10 ∷ (line ++ 10 ∷ after))
    ≡ sections_of (before ++ 10 ∷ (other ++ 10 ∷ after))

-- a blank in front of a line is no part of its text, nor one behind a line without a carriage
-- return at its end
pub record DropsOuterBlanks : Type 0 where
  pub in_front : (c : ℕ) (line : Bytes) → is_blank c ≡ true
      → text_of_line (c ∷ line) ≡ text_of_line line
  pub behind : (c : ℕ) (line : Bytes) → is_blank c ≡ true → without_return line ≡ line
      → text_of_line (line ++ c ∷ []) ≡ text_of_line line

-- ---- bytes and numbers of what is read

-- all bytes are tabs or from 32 to 126
abbrev pub IsPlain : Bytes → Type 0
IsPlain text = list_all is_allowed text ≡ true

-- the key and the value are plain
pub record IsPlainEntry (e : Entry) : Type 0 where
  pub key : IsPlain e.key
  pub value : IsPlain e.value

-- the name is plain, and so are all keys and values
pub record IsPlainSection (s : Section) : Type 0 where
  pub name : IsPlain s.name
  pub entries : All IsPlainEntry s.entries

-- all that is read of a file is plain
abbrev pub ReadsPlainTexts : Type 0
ReadsPlainTexts =
    (bytes : Bytes) (sections : List Section) → sections_of bytes ≡ Ok sections
    → All IsPlainSection sections

-- each number is greater than the one before it, and the first than this one
abbrev pub RiseAbove : ℕ → List ℕ → Type 0
RiseAbove n [] = ⊤
RiseAbove n (m ∷ ms) = (n < m) × RiseAbove m ms

-- the number of a section's line and those of its entries, one section after another
abbrev pub numbers_in : List Section → List ℕ
numbers_in [] = []
numbers_in (s ∷ ss) = s.line ∷ map (λ (e : Entry). e.line) s.entries ++ numbers_in ss

-- the numbers of lines rise, within a section and from section to section
abbrev pub NumbersRise : Type 0
NumbersRise =
    (bytes : Bytes) (sections : List Section) → sections_of bytes ≡ Ok sections
    → RiseAbove 0 (numbers_in sections)
