use Rattle.std.proofs.Common.{◌≡◌, ◌<◌, Some, length}
use Rattle.std.specs.Prelude.{IfSome}
use Rattle.std.specs.Vec.{vec_capacity}
use Rattle.time_queue.specs.Waiting.{leaves_at, waiting_time}
use Rattle.time_queue.specs.Taking.{TakesMore}
use Rattle.time_queue.specs.Lists.{AreLinked}
use Rattle.time_queue.proofs.lists.Lists.take_list.Given as goal

abbrev pub invariant-loop-next : goal.invariant-loop-next
invariant-loop-next l = record {
  linked : AreLinked l.self l.next;
  taken : TakesMore l.at l.fn.self.times.items l.self.times.items l.fn.into.items l.into.items;
  fewer : length (leaves_at l.at l.self.times.items) < length (leaves_at l.at l.fn.self.times.items);
  waits : IfSome l.next (λ x. waiting_time l.self.times.items x ≡ Some l.at);
  capacity : vec_capacity l.into ≡ vec_capacity l.fn.into;
}

abbrev pub decreases-loop-next : goal.decreases-loop-next
decreases-loop-next l = length (leaves_at l.at l.self.times.items)
