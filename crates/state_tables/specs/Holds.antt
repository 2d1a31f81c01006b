-- Private: how long the states of a table are held.
use Rattle.std.specs.Prelude.{ℕ, ◌≤◌, Option, List, slice_get}
use Rattle.std.specs.Option.{ForSome, option_and_then}
use Rattle.quantity.specs.declared.bounds.TheConstants.{MAX_DELAY}
use Rattle.state_tables.specs.declared.settings.Hold.{Hold}

-- the hold of a state, where it has one
abbrev pub hold_at : List (Option Hold) → ℕ → Option Hold
hold_at holds state = option_and_then (λ (h : Option Hold). h) (slice_get holds state)

-- each time can be waited for
abbrev pub AreShort : List (Option Hold) → Type 0
AreShort holds = (state : ℕ) → ForSome (hold_at holds state) (λ h. h.time ≤ MAX_DELAY)
