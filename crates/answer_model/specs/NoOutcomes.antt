-- What no call may leave: another file blamed, a line of no fault, the end shown before a file is
-- whole, and statuses of other parts.
use Rattle.std.specs.Prelude.{[], codes}
use Rattle.quantity.specs.Bytes.{Bytes}
use Rattle.room_edge.specs.Outside.{Outside}
use Rattle.answer_model.specs.AskedRows.{words}
use Rattle.answer_model.specs.WholeFiles.{boxes}
use Rattle.answer_model.specs.OutcomeRows.{before, with_log, start_of_log, whole}
use Rattle.answer_model.specs.OutcomeRows.{asks, asks_no_time}
use Rattle.answer_model.specs.Programs.{CdppEnds, CdppCauses, DrawlogCauses}
use Rattle.answer_model.specs.declared.status.Status.TheVariants.{Missing, WriteFault, ModelRefused, NoMemory, LogRefused, StateRefused}

-- the log has its first 64 bytes, and this was complained
abbrev pub cut_with : Bytes → Outside
cut_with complained = with_log (start_of_log 64) [] complained

-- a file is blamed that the run doesn't make
abbrev pub other_blamed : Outside
other_blamed = record (cut_with (codes "write fault: frames.txt\n")) { write_faults = 1 }

-- a line that is said of no fault
abbrev pub other_line : Outside
other_line = cut_with (codes "out of memory\n")

-- the line of a write fault, and none was counted
abbrev pub untrue_line : Outside
untrue_line = cut_with (codes "write fault: log.txt\n")

-- the end of the run was shown, and the log lacks bytes
abbrev pub shown_early : Outside
shown_early =
    record (with_log (start_of_log 64) (codes "end 00:00:00:100 cycles 2\n")
    (codes "write fault: log.txt\n")) { write_faults = 1 }

-- a file was not there
abbrev pub one_miss : Outside
one_miss = record before { misses = 1 }

pub record EndsNotSo : Type 0 where
  pub other_file : ¬ CdppEnds (words asks) boxes before other_blamed WriteFault
  pub no_fault : ¬ CdppEnds (words asks) boxes before other_line NoMemory
  pub no_such_fault : ¬ CdppEnds (words asks) boxes before untrue_line NoMemory
  pub shown_first : ¬ CdppEnds (words asks) boxes before shown_early WriteFault
  pub of_a_log : ¬ CdppCauses (words asks) before whole LogRefused
  pub of_a_state : ¬ DrawlogCauses (words asks) before whole StateRefused
  pub of_a_model : ¬ DrawlogCauses (words asks) before whole ModelRefused
  pub words_first : ¬ CdppCauses (words asks_no_time) before one_miss Missing
