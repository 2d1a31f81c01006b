-- What the numbers of a queue are in a run.
use Rattle.std.specs.Prelude.{List, ℤ, IfSome}
use Rattle.std.specs.List.{All}
use Rattle.quantity.specs.TimeBounds.{IsDelay, IsTime}
use Rattle.atomic_face.specs.Words.{time_of_word}
use Rattle.atomic_face.specs.Parameters.{time_setting}
use Rattle.atomic_face.specs.Queue.{queue_state, queue_rules}
use Rattle.run_model.specs.ClassBounds.{ClassBounds, IsNotBefore, IsValueWord}

-- the time at which it is due, and the values that wait
abbrev pub IsBoundedQueue : List ℤ → Type 0
IsBoundedQueue state =
    IfSome (time_of_word (queue_state state).due) IsTime
    × All IsValueWord (queue_state state).waiting

-- a queue
abbrev pub queue_bounds : ClassBounds
queue_bounds = record {
  waits_from = λ low state. IsNotBefore low (queue_rules.next state);
  bounded_settings = λ settings. IsDelay (time_setting settings);
  bounded_state = IsBoundedQueue;
}
