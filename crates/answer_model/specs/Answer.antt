-- What a program answers: the files that it makes, what it shows and complains, its status, and the
-- files that it looks for.
use Rattle.std.specs.Prelude.{ℕ, Option, Some, None, List, [], ◌∷◌, ◌++◌, map, codes, decimal}
use Rattle.model_tree.specs.Tree.{Word}
use Rattle.quantity.specs.Bytes.{Bytes}
use Rattle.room_edge.specs.Outside.{Files}
use Rattle.text_forms.specs.Lines.{line_with_end}
use Rattle.answer_model.specs.declared.status.Status.{Status}
use Rattle.answer_model.specs.declared.status.Status.TheVariants.{Done, Usage, Missing}

-- made files with their bytes, in the order of their making
abbrev pub MadeFiles : Type 0
MadeFiles = List (Word × Bytes)

-- the names of some files
abbrev pub names : MadeFiles → List Word
names files = map (λ (f : Word × Bytes). f.0) files

-- what a call leaves: the files it made, what it showed and complained of, its status, and the
-- files that it looked for
pub record Answer : Type 0 where
  pub made : MadeFiles
  pub shown : Bytes
  pub complained : Bytes
  pub status : Status
  pub inputs : List Word

-- nothing is made or shown
abbrev pub only_complains : Status → Bytes → List Word → Answer
only_complains status line inputs =
    record {
      made = [];
      shown = [];
      complained = line_with_end line;
      status = status;
      inputs = inputs;
    }

-- nothing is made or complained
abbrev pub only_shows : Bytes → List Word → Answer
only_shows bytes inputs =
    record { made = []; shown = bytes; complained = []; status = Done; inputs = inputs }

-- ---- one stage after another: the first that ends decides

-- goes on with what the words ask for, or ends with the form of the words
abbrev pub if_asked : {A : Type 0} → Bytes → Option A → (A → Answer) → Answer
if_asked form None go = only_complains Usage (codes "usage: " ++ form) []
if_asked form (Some a) go = go a

-- a file that isn't there ends the call
abbrev pub missing_file_answer : Word → List Word → Answer
missing_file_answer name inputs = only_complains Missing (codes "missing: " ++ name) inputs

-- goes on with the bytes of a file and the files looked for, or ends with the file missing
abbrev pub with_file : Files → Word → List Word → (Bytes → List Word → Answer) → Answer
with_file files name inputs go =
    elim (files name) [
      | None ↦ missing_file_answer name (inputs ++ name ∷ [])
      | Some bytes ↦ go bytes
          (inputs ++ name ∷ [])
    ]

-- what is refused, at which line and why
abbrev pub refused_text : Bytes → ℕ → Bytes → Bytes
refused_text what line why = what ++ codes " refused: line " ++ decimal line ++ codes ": " ++ why

-- ---- lines of faults, which no answer has

-- the complaint of a file that could not be read
abbrev pub read_fault_line : Word → Bytes
read_fault_line name = line_with_end (codes "read fault: " ++ name)

-- the complaint of a file that could not be written
abbrev pub write_fault_line : Word → Bytes
write_fault_line name = line_with_end (codes "write fault: " ++ name)
