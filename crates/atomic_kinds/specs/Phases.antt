-- The phases of a queue, and what words of its state are read as.
use Rattle.std.specs.Prelude.{◌≡◌, ℕ, true, false, ◌&&◌, Option, Some, None, List, map, ℤ, pos}
use Rattle.std.specs.declared.collections.VecDeque.{VecDeque}
use Rattle.std.specs.declared.result.Result.{Result}
use Rattle.std.specs.declared.result.Result.TheVariants.{Ok, Err}
use Rattle.quantity.specs.declared.value.Value.{Value as AnyValue}
use Rattle.atomic_face.specs.declared.params.RestoreRefusal.{RestoreRefusal}
use Rattle.atomic_face.specs.declared.params.RestoreRefusal.TheVariants.{BadState, Memory}
use Rattle.atomic_face.specs.Words.{no_time, word_of, are_values, is_due_if}
use Rattle.atomic_face.specs.Queue.{is_one, is_waiting}
use Rattle.atomic_kinds.specs.declared.queue.Phase.{Phase}
use Rattle.atomic_kinds.specs.declared.queue.Phase.TheVariants.{Idle, Preparing, GivenOut}

-- the word of a phase
abbrev pub phase_number : Phase → ℕ
phase_number Idle = 0
phase_number (Preparing t) = 1
phase_number GivenOut = 2

-- the word of the time at which a phase ends
abbrev pub phase_due : Phase → ℤ
phase_due Idle = no_time
phase_due (Preparing t) = pos t
phase_due GivenOut = no_time

-- what two words and those behind them are read as: a phase with these words, where they pass the
-- test of a state
abbrev pub ReadsPhase : ℤ → ℤ → List ℤ → Option Phase → Type 0
ReadsPhase phase due waiting (Some p) =
    (is_due_if (is_one phase) due && is_waiting phase waiting ≡ true)
    × (pos (phase_number p) ≡ phase)
    × (phase_due p ≡ due)
ReadsPhase phase due waiting None = is_due_if (is_one phase) due && is_waiting phase waiting ≡ false

-- the values that words are read as, where each is the word of a value
abbrev pub ReadsValues : {Z : Type 0} → List ℤ → Result (VecDeque AnyValue Z) RestoreRefusal
    → Type 0
ReadsValues words (Ok values) = (are_values words ≡ true) × (map word_of values.items ≡ words)
ReadsValues words (Err BadState) = are_values words ≡ false
ReadsValues words (Err Memory) = Unit {0}
