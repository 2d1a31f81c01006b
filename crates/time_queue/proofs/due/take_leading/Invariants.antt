use Rattle.std.proofs.Common.{◌≡◌, length}
use Rattle.std.specs.Vec.{vec_capacity}
use Rattle.time_queue.specs.Waiting.{leaves_at}
use Rattle.time_queue.specs.Taking.{TakesMore}
use Rattle.time_queue.proofs.due.take_leading.Given as goal

abbrev pub invariant-loop-first : goal.invariant-loop-first
invariant-loop-first g l = record {
  taken : TakesMore l.at (g.Q.DueFirst.waiting l.fn.queue) (g.Q.DueFirst.waiting l.queue) l.fn.into.items l.into.items;
  capacity : vec_capacity l.into ≡ vec_capacity l.fn.into;
}

abbrev pub decreases-loop-first : goal.decreases-loop-first
decreases-loop-first g l = length (leaves_at l.at (g.Q.DueFirst.waiting l.queue))
