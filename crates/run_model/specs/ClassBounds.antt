-- What the numbers of a class's boxes are in a run: settings and states with small times and
-- bounded values, and states in which nothing waits before an instant.
use Rattle.std.specs.Prelude.{ℕ, ◌≤◌, Option, Some, None, List, ℤ, ⊤}
use Rattle.quantity.specs.Roots.{IsBounded}
use Rattle.atomic_face.specs.Words.{value_of_word}

-- a time, where there is one, is this one or later
abbrev pub IsNotBefore : ℕ → Option ℕ → Type 0
IsNotBefore low None = ⊤
IsNotBefore low (Some t) = low ≤ t

-- a word that stands for a bounded value
abbrev pub IsValueWord : ℤ → Type 0
IsValueWord w = IsBounded (value_of_word w)

-- all that is said of the numbers of a class
pub record ClassBounds : Type 1 where
  -- of a state: it waits for this time or a later one
  pub waits_from : ℕ → List ℤ → Type 0
  -- of settings: their times and values are bounded
  pub bounded_settings : List ℤ → Type 0
  -- of a state: its times and values are bounded
  pub bounded_state : List ℤ → Type 0
