-- Events as they are kept and as they are given, and the first of those that are left.
use Rattle.std.specs.Prelude.{ℕ, Option, Some, None, List, [], ◌∷◌}
use Rattle.quantity.specs.declared.value.Value.{Value}
use Rattle.event_list.specs.declared.event.Event as kept
use Rattle.event_list.specs.Events.{Event}

-- an event in code as one of the definitions
abbrev pub plain_event : kept.Event → Event
plain_event e = record { time = e.time; port = e.port; value = e.value }

-- the time of an event
abbrev pub time_of : kept.Event → ℕ
time_of e = e.time

-- the input and the value of an event
abbrev pub port_and_value : Event → ℕ × Value
port_and_value e = (e.port, e.value)

-- the time of the first event
abbrev pub first_event_time : List Event → Option ℕ
first_event_time [] = None
first_event_time (e ∷ es) = Some e.time
