-- What follows of how a program ends, whichever room it has.
use Rattle.std.specs.Prelude.{◌≡◌, ◌≢◌, ◌⊎◌, Bool, false}
use Rattle.std.specs.Bool.{OnFalse}
use Rattle.model_tree.specs.Tree.{Word}
use Rattle.quantity.specs.Bytes.{Bytes}
use Rattle.room_edge.specs.Faults.{Rose}
use Rattle.room_edge.specs.Outside.{Outside}
use Rattle.answer_model.specs.Answer.{Answer, read_fault_line, write_fault_line}
use Rattle.answer_model.specs.Headline.{Begins, FallsShort, Writes, WritesPart}
use Rattle.answer_model.specs.LastPieces.{ShowsLast, TriesPart, WritesNothing}
use Rattle.answer_model.specs.declared.status.Status.{Status}
use Rattle.answer_model.specs.declared.status.Status.TheVariants.{ReadFault, WriteFault, NoMemory}
use Rattle.answer_model.specs.Status.{Stage, status_row, IsOf, IsCaused}
use Rattle.answer_model.specs.StatusNumbers.{of_faults}
use Rattle.answer_model.specs.FaultsAnswered.{CountsNoFault, AnswersFaults}
use Rattle.answer_model.specs.Outcome.{Complaint, Did, HasMore, IsLast, Lacks, Outcome}

-- the same of a stage after the words are taken; and each fault shows in the status, and on a read
-- fault nothing is written
pub record EndsBy (of : Stage → Bool) (old new : Outside) (status : Status) : Type 0 where
  pub known : IsOf of status
  pub cause : IsCaused ⊥ old new status
  pub faults : AnswersFaults old new status
  pub nothing : status ≡ ReadFault → WritesNothing old new

-- what was complained at a fault or for want of memory
pub record Complains (a : Answer) (old new : Outside) (did : Did) (status : Status) : Type 0 where
  pub more : HasMore did old new
  pub at_read_fault : status ≡ ReadFault
      → (name : Word) × IsLast name did.tried × (did.complained ≡ read_fault_line name)
  pub at_write_fault : status ≡ WriteFault
      → ((name : Word) × Lacks a did name × (did.complained ≡ write_fault_line name)) ⊎
      (Rose old.complain_faults new.complain_faults
      × ((line : Bytes) × Complaint a old new did line × FallsShort did.complained line))
  pub at_no_memory : status ≡ NoMemory
      → (line : Bytes) × Complaint a old new did line × Begins did.complained line

-- an answer's own status is none of a fault or of want of memory
abbrev pub IsOwn : Status → Type 0
IsOwn status = of_faults (status_row status).part ≡ false

-- the clauses of a call
pub record FollowsAnswer (a : Answer) (old new : Outside) (status : Status) : Type 0 where
  pub own : OnFalse (of_faults (status_row status).part) (Writes a old new status)
  pub part : WritesPart a old new
  pub turn : ShowsLast a old new
  pub tried : TriesPart a old new
  pub nothing : status ≡ ReadFault → WritesNothing old new
  pub complains : (did : Did) × Complains a old new did status
  pub read_fault : status ≡ ReadFault → Rose old.read_faults new.read_faults
  pub write_fault : status ≡ WriteFault → Rose old.write_faults new.write_faults

-- what the clauses of a call say follows from its outcome
abbrev pub OutcomesFollow : Type 0
OutcomesFollow =
    (a : Answer) (old new : Outside) (status : Status) → IsOwn a.status → Outcome a old new status
    → FollowsAnswer a old new status

-- without a fault the status is the answer's, or 12
abbrev pub IsComplete : Type 0
IsComplete =
    (a : Answer) (old new : Outside) (status : Status) → Outcome a old new status
    → ¬ Rose old.read_faults new.read_faults → ¬ Rose old.write_faults new.write_faults
    → (status ≡ a.status) ⊎ (status ≡ NoMemory)

-- where the status is none of a fault or want of memory, all is as answered
abbrev pub IsExact : Type 0
IsExact =
    (a : Answer) (old new : Outside) (status : Status) → Outcome a old new status
    → status ≢ ReadFault → status ≢ WriteFault → status ≢ NoMemory → Writes a old new status

-- where the status is none of a fault or want of memory, nothing failed
abbrev pub IsSure : Type 0
IsSure =
    (old new : Outside) (status : Status) → IsOwn status → AnswersFaults old new status
    → CountsNoFault old new

-- what follows from outcomes
pub record OutcomeLaws : Type 0 where
  pub follow : OutcomesFollow
  pub complete : IsComplete
  pub exact : IsExact
  pub sure : IsSure
