-- The sections of a file, or the first line that is refused.
use Rattle.std.specs.Prelude.{ℕ, ◌==◌, Bool, not, ◌&&◌, ◌||◌, Option, Some, None, List, ◌∷◌, ◌++◌, if◌then◌else◌, []}
use Rattle.std.specs.declared.result.Result.{Result}
use Rattle.std.specs.declared.result.Result.TheVariants.{Ok, Err}
use Rattle.std.specs.List.{list_any, list_all}
use Rattle.std.specs.Option.{option_or, option_map, option_to_list, unwrap_or}
use Rattle.quantity.specs.ByteNames.{closing_bracket, colon, opening_bracket}
use Rattle.quantity.specs.Bytes.{Bytes, is_empty, is_byte, without_outer_blanks, inside, is_among}
use Rattle.quantity.specs.Digits.{is_between}
use Rattle.source_text.specs.Lines.{Line, lines_of, in_lower_case}
use Rattle.ma_lines.specs.declared.section.Entry.{Entry}
use Rattle.ma_lines.specs.declared.section.LineRefusal.{LineRefusal}
use Rattle.ma_lines.specs.declared.section.LineRefusal.TheVariants.{BadLine, DuplicateSection}
use Rattle.ma_lines.specs.Entries.{is_heading, Braced, lines_with_braces, braces_after_line, continuation, key_in, entry_of}

-- ---- sections

-- a section: its line, name and entries
pub record Section : Type 0 where
  pub line : ℕ
  pub name : Bytes
  pub entries : List Entry

-- a bracket stands in the text
abbrev pub has_brackets : Bytes → Bool
has_brackets text = list_any (λ c. (c == opening_bracket) || (c == closing_bracket)) text

-- the name between brackets, or none where there is no name
abbrev pub name_in : Option Bytes → Option Bytes
name_in None = None
name_in (Some text) =
    if has_brackets text
    || is_empty (without_outer_blanks text) then None else Some
    (in_lower_case (without_outer_blanks text))

-- the name in a heading
abbrev pub section_name : Line → Option Bytes
section_name l = name_in (inside opening_bracket closing_bracket l.text)

-- ---- pieces: a heading or an entry

-- a heading or an entry
pub data Piece : Type 0 where
  heading : (line : ℕ) (name : Bytes) → Piece
  item : Entry → Piece

-- what a line begins
abbrev pub piece_of : Line → Bytes → List Piece
piece_of l more =
    if is_empty l.text then []
    else if is_heading l then heading l.number (unwrap_or (section_name l) []) ∷ []
    else item (entry_of l more) ∷ []

-- a piece for each line that doesn't continue an entry and isn't empty
abbrev pub pieces : List Braced → List Piece
pieces [] = []
pieces (b ∷ bs) = (if b.braces == 0 then piece_of b.line (continuation bs) else []) ++ pieces bs

-- the entries up to the next section
abbrev pub first_entries : List Piece → List Entry
first_entries [] = []
first_entries (heading line name ∷ ps) = []
first_entries (item e ∷ ps) = e ∷ first_entries ps

-- entries under their headings
abbrev pub sections_in : List Piece → List Section
sections_in [] = []
sections_in (heading line name ∷ ps) =
    record { line = line; name = name; entries = first_entries ps } ∷ sections_in ps
sections_in (item e ∷ ps) = sections_in ps

-- ---- refusals

-- a tab, or a byte of plain text
abbrev pub is_allowed : ℕ → Bool
is_allowed c = (c == 9) || is_between 32 126 c

-- a key before a colon
abbrev pub is_entry : Line → Bool
is_entry l = list_any (is_byte colon) l.text && not (is_empty (key_in l.text))

-- the name of the section that a line begins
abbrev pub begun_names : Braced → List Bytes
begun_names b = if b.braces == 0 then option_to_list (section_name b.line) else []

-- why a heading is refused
abbrev pub heading_refused : List Bytes → ℕ → Option Bytes → Option LineRefusal
heading_refused before line None = Some (BadLine line)
heading_refused before line (Some name) =
    if is_among before name then Some (DuplicateSection line) else None

-- why a line is refused that stands after sections of these names
abbrev pub line_refused : List Bytes → Braced → Option LineRefusal
line_refused before b =
    if not (list_all is_allowed b.line.text) then Some (BadLine b.line.number)
    else if not (b.braces == 0) || is_empty b.line.text then None
    else if is_heading b.line then heading_refused before b.line.number (section_name b.line)
    else if is_entry b.line && not (is_empty before) then None
    else Some (BadLine b.line.number)

-- the first line that is refused, after sections of these names
abbrev pub first_refused : List Bytes → List Braced → Option LineRefusal
first_refused before [] = None
first_refused before (b ∷ bs) =
    option_or (line_refused before b) (first_refused (before ++ begun_names b) bs)

-- the first line of an entry that is open at the end
abbrev pub left_open : Option ℕ → ℕ → List Line → Option ℕ
left_open first n [] = if n == 0 then None else first
left_open first n (l ∷ ls) =
    left_open (if n == 0 then Some l.number else first) (braces_after_line n l) ls

-- the first refusal of the lines
abbrev pub lines_refused : List Line → Option LineRefusal
lines_refused ls =
    option_or (first_refused [] (lines_with_braces 0 ls))
    (option_map (λ line. BadLine line) (left_open None 0 ls))

-- ---- the whole file

-- the sections of lines that are not refused
abbrev pub unless_refused : Option LineRefusal → List Line → Result (List Section) LineRefusal
unless_refused None ls = Ok (sections_in (pieces (lines_with_braces 0 ls)))
unless_refused (Some r) ls = Err r

-- the sections of the bytes of a file, or the first refusal
unfoldable pub sections_of : Bytes → Result (List Section) LineRefusal
sections_of bytes = unless_refused (lines_refused (lines_of bytes)) (lines_of bytes)
