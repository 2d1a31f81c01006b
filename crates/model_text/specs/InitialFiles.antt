-- The files of initial values that a model names, in the order in which they are looked for.
use Rattle.std.specs.Prelude.{ℕ, Bool, nat_lt, Option, Some, None, List, [], ◌∷◌, ◌++◌, map, length, if◌then◌else◌, codes}
use Rattle.std.specs.List.{flat_map}
use Rattle.std.specs.Option.{option_or, option_to_list, is_some}
use Rattle.quantity.specs.declared.bounds.TheConstants.{MAX_FILE_BYTES}
use Rattle.quantity.specs.Bytes.{Bytes}
use Rattle.source_text.specs.Lines.{Files}
use Rattle.ma_lines.specs.declared.section.Entry.{Entry}
use Rattle.ma_lines.specs.Sections.{Section}
use Rattle.cell_grid.specs.Initial.{map_file, cells_file}
use Rattle.model_text.specs.declared.kind.Kind.TheVariants.{TooLong, BadInitial}
use Rattle.model_text.specs.Refusals.{Refusal, refusal}
use Rattle.model_text.specs.Keyed.{first_entry}
use Rattle.model_text.specs.Walk.{groups}
use Rattle.model_text.specs.Spaces.{space_of}

-- a file with the line of its key, and which contents are of its form
pub record InitialFile : Type 0 where
  pub line : ℕ
  pub name : Bytes
  pub is_right : Bytes → Bool

-- the file that an entry names
abbrev pub file_at : (Bytes → Bool) → Entry → InitialFile
file_at is_right e = record { line = e.line; name = e.value; is_right = is_right }

-- the files that the section of a group names: of maps first, then of cells
abbrev pub files_of_group : Section → List InitialFile
files_of_group s =
    map (file_at (λ bytes. is_some (map_file (space_of s) bytes)))
    (option_to_list (first_entry (codes "initialmapvalue") s))
    ++ map (file_at (λ bytes. is_some (cells_file (space_of s) bytes)))
    (option_to_list (first_entry (codes "initialcellsvalue") s))

-- those of all groups, in their order
abbrev pub initial_files : List Section → List InitialFile
initial_files ss = flat_map files_of_group (groups ss)

-- ---- files that stop the reading

-- a file that is not there, or a refusal
pub data FileStop : Type 0 where
  absent : (name : Bytes) → FileStop
  off : Refusal → FileStop

-- more than MAX_FILE_BYTES bytes
abbrev pub is_long : Bytes → Bool
is_long bytes = nat_lt MAX_FILE_BYTES (length bytes)

-- a file that is missing, too long or off its form
abbrev pub content_stops : InitialFile → Option Bytes → Option FileStop
content_stops f None = Some (absent f.name)
content_stops f (Some bytes) =
    if is_long bytes then Some (off (refusal f.line TooLong))
    else if f.is_right bytes then None
    else Some (off (refusal f.line BadInitial))

-- how a file stops the reading, by what is there under its name
abbrev pub file_stops : Files → InitialFile → Option FileStop
file_stops files f = content_stops f (files f.name)

-- the first file that stops
abbrev pub first_file_stop : Files → List InitialFile → Option FileStop
first_file_stop files [] = None
first_file_stop files (f ∷ fs) = option_or (file_stops files f) (first_file_stop files fs)

-- the names that are looked for: up to the first file that stops
abbrev pub names_looked_for : Files → List InitialFile → List Bytes
names_looked_for files [] = []
names_looked_for files (f ∷ fs) =
    f.name ∷ (if is_some (file_stops files f) then [] else names_looked_for files fs)
