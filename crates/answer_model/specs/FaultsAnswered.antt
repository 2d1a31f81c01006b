-- Each fault that was counted shows in the status, also where nothing is told.
use Rattle.std.specs.Prelude.{◌≡◌, ◌≢◌, ◌⊎◌}
use Rattle.quantity.specs.Bytes.{Bytes}
use Rattle.model_tree.specs.Tree.{Word}
use Rattle.room_edge.specs.FaultCounts.{ComplaintFaultCounted}
use Rattle.room_edge.specs.Outside.{Outside, streams}
use Rattle.answer_model.specs.declared.status.Status.{Status}
use Rattle.answer_model.specs.declared.status.Status.TheVariants.{ReadFault, WriteFault, NoMemory}
use Rattle.answer_model.specs.Answer.{read_fault_line, write_fault_line}
use Rattle.answer_model.specs.Headline.{FallsShort}

-- ---- counts that stay

-- no write failed
abbrev pub NoWriteFault : Outside → Outside → Type 0
NoWriteFault old new = new.write_faults ≡ old.write_faults

-- nor a complaint
abbrev pub NoComplaintFault : Outside → Outside → Type 0
NoComplaintFault old new = new.complain_faults ≡ old.complain_faults

-- nor a read
abbrev pub NoReadFault : Outside → Outside → Type 0
NoReadFault old new = new.read_faults ≡ old.read_faults

-- nothing failed
pub record CountsNoFault (old new : Outside) : Type 0 where
  pub reads : NoReadFault old new
  pub writes : NoWriteFault old new
  pub complaints : NoComplaintFault old new

-- ---- faults and the status

-- memory ran out while the line of a file or a stream was told: a beginning of it, maybe of no
-- bytes and never all, was complained
abbrev pub RunsOut : (Word → Bytes) → Outside → Outside → Status → Type 0
RunsOut line old new status =
    (status ≡ NoMemory) × (name : Word) × (part : Bytes) × FallsShort part (line name)
    × (new.complained ≡ streams old.complained part)

-- the complaint failed too, which the status tells
abbrev pub FailsAgain : Outside → Outside → Status → Type 0
FailsAgain old new status = (status ≡ WriteFault) × ComplaintFaultCounted old new

-- what the status is where a complaint, another write or a read failed
pub record AnswersFaults (old new : Outside) (status : Status) : Type 0 where
  -- where a complaint failed, the status is that of a write fault
  pub complaint : status ≢ WriteFault → NoComplaintFault old new
  -- so it is where another write failed, if memory did not run out while that was told
  pub write : status ≢ WriteFault → NoWriteFault old new ⊎ RunsOut write_fault_line old new status
  -- where a read failed, it is that of a read fault; or the complaint failed too, or memory ran out
  -- while that was told
  pub read : status ≢ ReadFault
      → NoReadFault old new ⊎ FailsAgain old new status ⊎ RunsOut read_fault_line old new status
