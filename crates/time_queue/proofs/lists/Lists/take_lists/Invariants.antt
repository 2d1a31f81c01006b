use Rattle.std.proofs.Common.{◌≡◌, None, length}
use Rattle.std.specs.Vec.{vec_capacity}
use Rattle.time_queue.specs.Waiting.{leaves_at}
use Rattle.time_queue.specs.Taking.{TakesMore}
use Rattle.time_queue.specs.Lists.{AreLinked}
use Rattle.time_queue.proofs.lists.Lists.take_lists.Given as goal

abbrev pub invariant-loop-first : goal.invariant-loop-first
invariant-loop-first l = record {
  linked : AreLinked l.self None;
  taken : TakesMore l.at l.fn.self.times.items l.self.times.items l.fn.into.items l.into.items;
  capacity : vec_capacity l.into ≡ vec_capacity l.fn.into;
}

abbrev pub decreases-loop-first : goal.decreases-loop-first
decreases-loop-first l = length (leaves_at l.at l.self.times.items)
