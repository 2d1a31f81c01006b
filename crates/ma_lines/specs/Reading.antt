-- Private: a file read line by line: the sections so far, and the entry whose braces are open.
use Rattle.std.specs.Prelude.{ℕ, ◌==◌, Option, Some, None, List, [], ◌∷◌, ◌++◌, map, if◌then◌else◌}
use Rattle.std.specs.declared.result.Result.{Result}
use Rattle.std.specs.declared.result.Result.TheVariants.{Ok, Err}
use Rattle.std.specs.Option.{unwrap_or, option_map_or}
use Rattle.quantity.specs.Bytes.{Bytes, is_empty}
use Rattle.source_text.specs.Lines.{Line, in_lower_case}
use Rattle.ma_lines.specs.declared.section.Entry.{Entry}
use Rattle.ma_lines.specs.declared.section.LineRefusal.{LineRefusal}
use Rattle.ma_lines.specs.declared.section.LineRefusal.TheVariants.{BadLine}
use Rattle.ma_lines.specs.Entries.{is_heading, Braced, braces_after, braces_after_line, after_space, keeps_letters, key_in, value_after}
use Rattle.ma_lines.specs.Sections.{Section, section_name, line_refused}

-- the names of sections
abbrev pub names : List Section → List Bytes
names ss = map (λ (s : Section). s.name) ss

-- the sections, with an entry more in the last
abbrev pub with_entry : Entry → List Section → List Section
with_entry e [] = []
with_entry e (s ∷ []) = record { line = s.line; name = s.name; entries = s.entries ++ e ∷ [] } ∷ []
with_entry e (s ∷ t ∷ ss) = s ∷ with_entry e (t ∷ ss)

-- an entry whose braces may be open, with the letters of its value as they stand in the file
pub record Opened : Type 0 where
  pub line : ℕ
  pub key : Bytes
  pub value : Bytes
  pub braces : ℕ

-- what has been read: sections, and an entry that may go on
pub record Reading : Type 0 where
  pub sections : List Section
  pub open_entry : Option Opened

-- an entry that has ended
abbrev pub whole : Opened → Entry
whole e =
    record {
      line = e.line;
      key = e.key;
      value = if keeps_letters e.key then e.value else in_lower_case e.value;
    }

-- the entry that a line begins
abbrev pub opened_by : Line → Opened
opened_by l = record {
  line = l.number;
  key = key_in l.text;
  value = value_after l.text;
  braces = braces_after_line 0 l;
}

-- joined with one space to the text of a line
abbrev pub entry_with_text : Opened → Bytes → Opened
entry_with_text e text =
    record {
      line = e.line;
      key = e.key;
      value = e.value ++ after_space text;
      braces = braces_after e.braces text;
    }

-- an entry without open braces goes into the last section
abbrev pub reading_with_entry : List Section → Opened → Reading
reading_with_entry ss e =
    if e.braces == 0 then record { sections = with_entry (whole e) ss; open_entry = None }
    else record { sections = ss; open_entry = Some e }

-- what a line begins: nothing, a section or an entry
abbrev pub begun_by : List Section → Line → Reading
begun_by ss l =
    if is_empty l.text then record { sections = ss; open_entry = None }
    else if is_heading l then
    record {
      sections =
          ss ++ record { line = l.number; name = unwrap_or (section_name l) []; entries = [] }
          ∷ [];
      open_entry = None;
    }
    else reading_with_entry ss (opened_by l)

-- one line more
abbrev pub next_with : List Section → Option Opened → Line → Reading
next_with ss None l = begun_by ss l
next_with ss (Some e) l = reading_with_entry ss (entry_with_text e l.text)

-- what a line makes of a reading
abbrev pub next : Reading → Line → Reading
next r l = next_with r.sections r.open_entry l

-- the braces that are open
abbrev pub braces_in : Option Opened → ℕ
braces_in o = option_map_or (λ (e : Opened). e.braces) o 0

-- a line with the braces that are open before it
abbrev pub braced_in : Option Opened → Line → Braced
braced_in o l = record { braces = braces_in o; line = l }

-- why the next line is refused
abbrev pub refused_in : Reading → Line → Option LineRefusal
refused_in r l = line_refused (names r.sections) (braced_in r.open_entry l)

-- the sections where the file ends here
abbrev pub at_end : List Section → Option Opened → Result (List Section) LineRefusal
at_end ss None = Ok ss
at_end ss (Some e) = Err (BadLine e.line)

-- what is read, unless it is refused
abbrev pub unless : {A : Type 0} → Option LineRefusal → Result A LineRefusal → Result A LineRefusal
unless None r = r
unless (Some why) r = Err why

-- what comes of a reading and the lines behind it
abbrev pub read_from : Reading → List Line → Result (List Section) LineRefusal
read_from r [] = at_end r.sections r.open_entry
read_from r (l ∷ ls) = unless (refused_in r l) (read_from (next r l) ls)
