use Rattle.std.proofs.Common.{◌≡◌, ◌≤◌, length}
use Rattle.model_leaves.specs.Leaves.{OfTree}
use Rattle.run_leaves.specs.Watching.{AreSeated}
use Rattle.run_leaves.proofs.watchers.seat_all.Given as goal

abbrev pub invariant-loop-leaf : goal.invariant-loop-leaf
invariant-loop-leaf l = record {
  long : length l.seats ≡ l.leaf;
  few : length l.blocks.items ≤ l.leaf;
  seated : OfTree l.model (λ tree. AreSeated tree l.seats l.blocks.items);
}
