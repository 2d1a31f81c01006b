-- How a program ends, stage by stage.
use Rattle.std.specs.Prelude.{◌≡◌, true, List, [], ◌∷◌, ◌++◌, ◌⊎◌, codes}
use Rattle.quantity.specs.Bytes.{Bytes}
use Rattle.model_tree.specs.Tree.{Word}
use Rattle.room_edge.specs.Faults.{ReadFaultCounted, WriteFaultCounted}
use Rattle.room_edge.specs.FaultCounts.{ComplaintFaultCounted, KeepsReadFaults, KeepsWriteFaults, KeepsComplaintFaults}
use Rattle.room_edge.specs.Outside.{Outside}
use Rattle.answer_model.specs.Answer.{MadeFiles, Answer, read_fault_line, write_fault_line}
use Rattle.answer_model.specs.Headline.{Begins, FallsShort, Writes}
use Rattle.answer_model.specs.FaultsAnswered.{NoWriteFault, NoComplaintFault}
use Rattle.answer_model.specs.declared.status.Status.{Status}
use Rattle.answer_model.specs.declared.status.Status.TheVariants.{ReadFault, WriteFault, NoMemory}
use Rattle.answer_model.specs.Outcome.{Did, HasMore, IsBegun, IsLast, Lacks, Outcome}
use Rattle.answer_model.specs.Steps.{is_made, did_nothing, and_tried, and_created, and_appended, and_showed, Tried, Created, Appended, Showed, Complained}

-- ---- a line, and what it came to

-- a line was complained: all of it, with a status of its own; or less, since a complaint failed or
-- memory ran out
pub data Says (line : Bytes) (own : Status) (old new : Outside) : Status → Type 0 where
  whole : Complained line old new → NoWriteFault old new → NoComplaintFault old new
      → Says line own old new own
  cut : (part : Bytes) → FallsShort part line → Complained part old new → WriteFaultCounted old new
      → ComplaintFaultCounted old new → Says line own old new WriteFault
  unsaid : (part : Bytes) → FallsShort part line → Complained part old new → NoWriteFault old new
      → NoComplaintFault old new → Says line own old new NoMemory

-- bytes were shown: all of them, with a status of its own; or a part, since a write failed, which a
-- line tells, or memory ran out
pub data ShowsEnd (bytes : Bytes) (own : Status) (old new : Outside) : Status → Type 0 where
  all_shown : Showed bytes old new → NoWriteFault old new → ShowsEnd bytes own old new own
  stopped : {status : Status} (part : Bytes) (mid : Outside) → FallsShort part bytes
      → Showed part old mid → KeepsWriteFaults old mid → WriteFaultCounted old mid
      → Says (write_fault_line (codes "standard output")) WriteFault mid new status
      → ShowsEnd bytes own old new status
  unshown : (part : Bytes) → Begins part bytes → Showed part old new → NoWriteFault old new
      → ShowsEnd bytes own old new NoMemory

-- ---- stages

-- on the way to an answer just this was done; nothing was complained yet, and the answer's files
-- were looked for in their order
pub record IsOnWay (a : Answer) (did : Did) (old now : Outside) : Type 0 where
  pub more : HasMore did old now
  pub quiet : did.complained ≡ []
  pub inputs : Begins did.tried a.inputs
  pub reads : KeepsReadFaults old now
  pub writes : KeepsWriteFaults old now
  pub complaints : KeepsComplaintFaults old now

-- these names were looked for, and these files were made; nothing was shown or complained
abbrev pub made_after : List Word → MadeFiles → Did
made_after inputs files = record { tried = inputs; made = files; shown = []; complained = [] }

-- these names were looked for, and nothing else was done
abbrev pub looked_for : List Word → Did
looked_for inputs = made_after inputs []

-- a stage that goes on: whoever had done this on the way to the answer has done that after it
abbrev pub LeadsTo : Answer → Did → Did → Outside → Outside → Type 0
LeadsTo a did more old new = (start : Outside) → IsOnWay a did start old → IsOnWay a more start new

-- a stage that ends: whoever had done this on the way to the answer has an outcome of it
abbrev pub EndsWith : Answer → Did → Outside → Outside → Status → Type 0
EndsWith a did old new status =
    (start : Outside) → IsOnWay a did start old → Outcome a start new status

-- ---- laws

-- the steps of a program on the way to an answer
pub record StepsLead : Type 0 where
  pub start : (a : Answer) (now : Outside) → IsOnWay a did_nothing now now
  pub trying : (a : Answer) (did : Did) (now new : Outside) (name : Word)
      → Begins (did.tried ++ name ∷ []) a.inputs → Tried name now new → KeepsReadFaults now new
      → LeadsTo a did (and_tried name did) now new
  pub creating : (a : Answer) (did : Did) (now new : Outside) (name : Word) → Created name now new
      → KeepsWriteFaults now new → LeadsTo a did (and_created name did) now new
  pub appending : (a : Answer) (did : Did) (now new : Outside) (name : Word) (bytes : Bytes)
      → is_made name did.made ≡ true → Appended name bytes now new → KeepsWriteFaults now new
      → LeadsTo a did (and_appended name bytes did) now new
  pub showing : (a : Answer) (did : Did) (now new : Outside) (bytes : Bytes) → Showed bytes now new
      → KeepsWriteFaults now new → LeadsTo a did (and_showed bytes did) now new

-- from the last step to the outcome
pub record EndingsFollow : Type 0 where
  -- all is made and shown, and the answer has no line to complain
  pub shown : (a : Answer) (did : Did) (old now : Outside) → IsOnWay a did old now
      → did.made ≡ a.made → did.shown ≡ a.shown → a.complained ≡ [] → Outcome a old now a.status
  -- all is made, what is left to show is shown, and the answer has no line to complain
  pub ended : (a : Answer) (did : Did) (now new : Outside) (bytes : Bytes) (status : Status)
      → did.made ≡ a.made → a.shown ≡ did.shown ++ bytes → a.complained ≡ []
      → ShowsEnd bytes a.status now new status → EndsWith a did now new status
  -- all is made and shown, and the answer's line is complained
  pub said : (a : Answer) (did : Did) (now new : Outside) (status : Status) → did.made ≡ a.made
      → did.shown ≡ a.shown → Says a.complained a.status now new status
      → EndsWith a did now new status
  -- a read failed before anything was made or shown, and a line tells of the last name
  pub reading : (a : Answer) (did : Did) (old now new : Outside) (name : Word) (status : Status)
      → IsOnWay a did old now → did.made ≡ [] → did.shown ≡ [] → IsLast name did.tried
      → ReadFaultCounted old now → Says (read_fault_line name) ReadFault now new status
      → Outcome a old new status
  -- a write failed, and a line tells of what lacks bytes
  pub writing : (a : Answer) (did : Did) (old now new : Outside) (name : Word) (status : Status)
      → IsOnWay a did old now → IsBegun a did → Lacks a did name → WriteFaultCounted old now
      → Says (write_fault_line name) WriteFault now new status → Outcome a old new status
  -- memory ran out, and nothing is complained
  pub memory : (a : Answer) (did : Did) (now : Outside) → IsBegun a did
      → EndsWith a did now now NoMemory
  -- where no fault of reading or writing was counted, all is as answered, or memory ran out
  pub surely : (a : Answer) (old new : Outside) (status : Status) → Outcome a old new status
      → ¬ ReadFaultCounted old new → ¬ WriteFaultCounted old new
      → (status ≡ NoMemory) ⊎ Writes a old new status
