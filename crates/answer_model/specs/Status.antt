-- The statuses that a process of a program ends with: of each a row with its number, the part of a
-- program that ends so, and what must have come about. What holds of several of them is asked of
-- the rows.
use Rattle.std.specs.Prelude.{◌≡◌, ℕ, Bool, true, false, ⊤}
use Rattle.room_edge.specs.Faults.{MissCounted, ReadFaultCounted, WriteFaultCounted}
use Rattle.room_edge.specs.Outside.{Outside}
use Rattle.answer_model.specs.declared.status.Status.{Status}
use Rattle.answer_model.specs.declared.status.Status.TheVariants as exit

-- which part of a program ends so
pub data Stage : Type 0 where
  -- the words
  at_words : Stage
  -- looking for the files that are named
  at_files : Stage
  -- reading them
  at_reads : Stage
  -- what a model or events are read from
  at_inputs : Stage
  -- what a saved state is read from
  at_state : Stage
  -- what a log is read from
  at_log : Stage
  -- the cycles of a run
  in_run : Stage
  -- the end, with all that was asked for
  at_end : Stage
  -- any part
  anywhere : Stage

-- what must have come about
pub data Cause : Type 0 where
  -- nothing that is counted
  no_cause : Cause
  words_refused : Cause
  a_miss : Cause
  a_read_fault : Cause
  a_write_fault : Cause

-- a status: its number, the part that ends so, and what must have come about
pub record StatusRow : Type 0 where
  pub number : ℕ
  pub part : Stage
  pub cause : Cause

-- a row with these entries
abbrev pub row : ℕ → Stage → Cause → StatusRow
row number part cause = record { number = number; part = part; cause = cause }

-- the row of each status
abbrev pub status_row : Status → StatusRow
status_row exit.Done = row 0 at_end no_cause
status_row exit.Usage = row 2 at_words words_refused
status_row exit.Missing = row 3 at_files a_miss
status_row exit.ReadFault = row 4 at_reads a_read_fault
status_row exit.WriteFault = row 5 anywhere a_write_fault
status_row exit.ModelRefused = row 6 at_inputs no_cause
status_row exit.EventsRefused = row 7 at_inputs no_cause
status_row exit.NoTrueRule = row 8 in_run no_cause
status_row exit.Overflow = row 9 in_run no_cause
status_row exit.BadDelay = row 10 in_run no_cause
status_row exit.TooManyCycles = row 11 in_run no_cause
status_row exit.NoMemory = row 12 anywhere no_cause
status_row exit.LogRefused = row 13 at_log no_cause
status_row exit.StateRefused = row 14 at_state no_cause

-- ---- questions of the table

-- a status is of one of these parts
abbrev pub IsOf : (Stage → Bool) → Status → Type 0
IsOf of status = of (status_row status).part ≡ true

-- those of words that are refused: so told, or a write fault or want of memory
abbrev pub of_words : Stage → Bool
of_words at_words = true
of_words anywhere = true
of_words part = false

-- ---- of cdpp, stage by stage

-- the parts of a run: its cycles, its end, and what may fail anywhere
abbrev pub of_run : Stage → Bool
of_run in_run = true
of_run at_end = true
of_run anywhere = true
of_run part = false

-- those of a reading, and of the run behind it
abbrev pub of_reading : Stage → Bool
of_reading at_files = true
of_reading at_reads = true
of_reading at_inputs = true
of_reading at_state = true
of_reading part = of_run part

-- those of the program: words, reading, run
abbrev pub of_cdpp : Stage → Bool
of_cdpp at_words = true
of_cdpp part = of_reading part

-- ---- of drawlog, stage by stage

-- the parts of a drawing: its log, its end, and what may fail anywhere
abbrev pub of_drawing : Stage → Bool
of_drawing at_log = true
of_drawing at_end = true
of_drawing anywhere = true
of_drawing part = false

-- those of a reading, and of the drawing behind it
abbrev pub of_log : Stage → Bool
of_log at_files = true
of_log at_reads = true
of_log part = of_drawing part

-- those of the program: words, reading, drawing
abbrev pub of_drawlog : Stage → Bool
of_drawlog at_words = true
of_drawlog part = of_log part

-- ---- causes

-- a cause came about between two moments; the first argument says that the words are refused
abbrev pub CameAbout : Type 0 → Outside → Outside → Cause → Type 0
CameAbout refused old new no_cause = ⊤
CameAbout refused old new words_refused = refused
CameAbout refused old new a_miss = MissCounted old new
CameAbout refused old new a_read_fault = ReadFaultCounted old new
CameAbout refused old new a_write_fault = WriteFaultCounted old new

-- the cause of a status came about
abbrev pub IsCaused : Type 0 → Outside → Outside → Status → Type 0
IsCaused refused old new status = CameAbout refused old new (status_row status).cause
