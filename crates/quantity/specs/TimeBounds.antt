-- The greatest delay and the latest time.
use Rattle.std.specs.Prelude.{ℕ, ◌≤◌}
use Rattle.quantity.specs.declared.bounds.TheConstants.{MAX_DELAY, MAX_TIME}

-- a delay, or the end of a run: at most 99:59:59:999
abbrev pub IsDelay : ℕ → Type 0
IsDelay ms = ms ≤ MAX_DELAY

-- a time: at most the longest delay after the latest end
abbrev pub IsTime : ℕ → Type 0
IsTime ms = ms ≤ MAX_TIME
