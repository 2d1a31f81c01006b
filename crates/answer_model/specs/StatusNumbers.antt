-- The number of a status, and which statuses come of faults and refusals.
use Rattle.std.specs.Prelude.{ℕ, Bool, true, false}
use Rattle.answer_model.specs.declared.status.Status.{Status}
use Rattle.answer_model.specs.Status.{Stage, anywhere, at_files, at_inputs, at_log, at_reads, at_state, at_words, status_row}

-- the number of a status
abbrev pub number_of : Status → ℕ
number_of status = (status_row status).number

-- those that a fault or want of memory may give in the place of the answer's
abbrev pub of_faults : Stage → Bool
of_faults at_reads = true
of_faults anywhere = true
of_faults part = false

-- those of refused words and files, and of missing files
abbrev pub of_refusals : Stage → Bool
of_refusals at_words = true
of_refusals at_files = true
of_refusals at_inputs = true
of_refusals at_state = true
of_refusals at_log = true
of_refusals part = false
