use Rattle.std.proofs.Common.{◌≡◌, ◌≤◌, length}
use Rattle.std.specs.Vec.{vec_capacity}
use Rattle.time_queue.proofs.Taken.{IsScanned}
use Rattle.time_queue.proofs.due.take_scattered.Given as goal

abbrev pub invariant-loop-leaf : goal.invariant-loop-leaf
invariant-loop-leaf g l = record {
  scanned : IsScanned l.at (g.Q.DueFirst.waiting l.fn.queue) (g.Q.DueFirst.waiting l.queue) l.into.items l.leaf;
  same : length (g.Q.DueFirst.waiting l.queue) ≡ length (g.Q.DueFirst.waiting l.fn.queue);
  end : l.leaf-end ≡ length (g.Q.DueFirst.waiting l.fn.queue);
  room : length (g.Q.DueFirst.waiting l.fn.queue) ≤ vec_capacity l.into;
}
