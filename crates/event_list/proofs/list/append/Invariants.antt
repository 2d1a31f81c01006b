use Rattle.std.proofs.Common.{◌≡◌, ◌++◌, map, take}
use Rattle.event_list.specs.Shown.{port_and_value, plain_event}
use Rattle.event_list.proofs.list.append.Given as goal

abbrev pub invariant-loop-event : goal.invariant-loop-event
invariant-loop-event l = l.into.items ≡ l.initial.into.items ++ map port_and_value (map plain_event (take l.event-index l.events))
