-- What the numbers of a counter are in a run.
use Rattle.std.specs.Prelude.{List, ℤ, IfSome}
use Rattle.quantity.specs.TimeBounds.{IsDelay, IsTime}
use Rattle.atomic_face.specs.Words.{time_of_word, natural_in}
use Rattle.atomic_face.specs.Parameters.{setting}
use Rattle.atomic_face.specs.Counter.{counter_state, counter_rules}
use Rattle.run_model.specs.ClassBounds.{ClassBounds, IsNotBefore, IsValueWord}

-- its delay and its start
abbrev pub AreCounterSettings : List ℤ → Type 0
AreCounterSettings settings =
    IsDelay (natural_in (setting settings 0)) × IsValueWord (setting settings 1)

-- the time at which its total is given, and the total
abbrev pub IsBoundedCounter : List ℤ → Type 0
IsBoundedCounter state =
    IfSome (time_of_word (counter_state state).due) IsTime × IsValueWord (counter_state state).total

-- a counter
abbrev pub counter_bounds : ClassBounds
counter_bounds = record {
  waits_from = λ low state. IsNotBefore low (counter_rules.next state);
  bounded_settings = AreCounterSettings;
  bounded_state = IsBoundedCounter;
}
