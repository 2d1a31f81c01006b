use Rattle.std.proofs.Common.{◌≡◌, ◌+◌, drop, nat_le}
use Rattle.std.specs.List.{prefix_len}
use Rattle.event_list.specs.Shown.{time_of}
use Rattle.event_list.proofs.list.count_until.Given as goal

abbrev pub invariant-loop-event : goal.invariant-loop-event
invariant-loop-event l =
    (l.count ≡ l.event-index) × (prefix_len (λ e. nat_le (time_of e) l.to) l.events ≡ l.count + prefix_len (λ e. nat_le (time_of e) l.to) (drop l.event-index l.events))
