-- What a call of a program does outside, step by step: it ends as answered, or by a fault or want
-- of memory with a beginning of the answer.
use Rattle.std.specs.Prelude.{◌≡◌, ◌≢◌, ◌⊎◌, Bool, Option, Some, None, List, ◌++◌, codes, Contains, []}
use Rattle.std.specs.List.{last_or}
use Rattle.model_tree.specs.Tree.{Word}
use Rattle.quantity.specs.Bytes.{Bytes}
use Rattle.room_edge.specs.Faults.{Rose}
use Rattle.room_edge.specs.Outside.{Outside, streams}
use Rattle.answer_model.specs.Answer.{MadeFiles, names, Answer, read_fault_line, write_fault_line}
use Rattle.answer_model.specs.Headline.{puts_all, Begins, FallsShort, BeginFiles}
use Rattle.answer_model.specs.declared.status.Status.{Status}
use Rattle.answer_model.specs.declared.status.Status.TheVariants.{ReadFault, WriteFault, NoMemory}
use Rattle.answer_model.specs.Status.{Stage, of_words, IsOf, IsCaused}

-- what a call did so far
pub record Did : Type 0 where
  pub tried : List Word
  pub made : MadeFiles
  pub shown : Bytes
  pub complained : Bytes

-- outside there is just this more
pub record HasMore (did : Did) (old new : Outside) : Type 0 where
  pub made : new.made ≡ puts_all old.made did.made
  pub created : new.created ≡ old.created ++ names did.made
  pub shown : new.shown ≡ streams old.shown did.shown
  pub complained : new.complained ≡ streams old.complained did.complained
  pub tried : new.tried ≡ old.tried ++ did.tried

-- what was made and shown begins what the answer makes and shows, and nothing is shown before all
-- files are whole
abbrev pub IsBegun : Answer → Did → Type 0
IsBegun a did =
    BeginFiles did.made a.made × Begins did.shown a.shown
    × ((did.made ≡ a.made) ⊎ (did.shown ≡ []))

-- ---- complaints

-- what lacks bytes of the answer: a file, or, where all files have theirs, the standard output
pub data Lacks (a : Answer) (did : Did) : Word → Type 0 where
  a_file : {name : Word} {bytes : Bytes} → Contains a.made (name, bytes)
      → ¬ Contains did.made (name, bytes) → Lacks a did name
  the_output : did.made ≡ a.made → did.shown ≢ a.shown → Lacks a did (codes "standard output")

-- this is the last name that was looked for
abbrev pub IsLast : Word → List Word → Type 0
IsLast name tried = last_or None tried ≡ Some name

-- a line that may be complained: the answer's; where a read failed that of the last name tried; where
-- a write failed that of what lacks bytes
pub data Complaint (a : Answer) (old new : Outside) (did : Did) : Bytes → Type 0 where
  of_answer : Complaint a old new did a.complained
  of_reading : {name : Word} → Rose old.read_faults new.read_faults → IsLast name did.tried
      → Complaint a old new did (read_fault_line name)
  of_writing : {name : Word} → Rose old.write_faults new.write_faults → Lacks a did name
      → Complaint a old new did (write_fault_line name)

-- ---- the five endings

-- how a call ends that did this: as answered; or a read, a write or a complaint failed, or memory
-- ran out, and then what it made and showed begins what the answer makes and shows
pub data Ending (a : Answer) (old new : Outside) (did : Did) : Status → Type 0 where
  as_answered : did.made ≡ a.made → did.shown ≡ a.shown → did.complained ≡ a.complained
      → Ending a old new did a.status
  reading_failed : {name : Word} → Rose old.read_faults new.read_faults → did.made ≡ []
      → did.shown ≡ [] → IsLast name did.tried → did.complained ≡ read_fault_line name
      → Ending a old new did ReadFault
  writing_failed : {name : Word} → Rose old.write_faults new.write_faults → IsBegun a did
      → Lacks a did name → did.complained ≡ write_fault_line name → Ending a old new did WriteFault
  complaining_failed : {line : Bytes} → Rose old.write_faults new.write_faults
      → Rose old.complain_faults new.complain_faults → IsBegun a did
      → Complaint a old new did line → FallsShort did.complained line
      → Ending a old new did WriteFault
  memory_failed : {line : Bytes} → IsBegun a did → Complaint a old new did line
      → Begins did.complained line → Ending a old new did NoMemory

-- the call did something, looked for the answer's files in their order, and ended so
pub record Outcome (a : Answer) (old new : Outside) (status : Status) : Type 0 where
  pub did : Did
  pub more : HasMore did old new
  pub inputs : Begins did.tried a.inputs
  pub ending : Ending a old new did status

-- ---- causes, also where nothing is told

-- the status is of these parts, and its cause came about; of refused words it is theirs
pub record Causes {A : Type 0} (of : Stage → Bool) (words : Option A) (old new : Outside)
    (status : Status) : Type 0 where
  pub known : IsOf of status
  pub cause : IsCaused (words ≡ None) old new status
  pub refused : words ≡ None → IsOf of_words status
