use Rattle.std.proofs.Common.{◌+◌, ◌≤◌, length, map}
use Rattle.event_list.specs.Shown.{plain_event}
use Rattle.event_list.proofs.Reading.{IsReading}
use Rattle.event_list.proofs.read.events_listed.Given as goal

abbrev pub invariant-loop-line : goal.invariant-loop-line
invariant-loop-line l = IsReading l.ports l.bytes (map plain_event l.events.items) l.number l.rest × (l.number + length l.rest ≤ length l.bytes + 1)

abbrev pub decreases-loop-line : goal.decreases-loop-line
decreases-loop-line l = length l.rest
