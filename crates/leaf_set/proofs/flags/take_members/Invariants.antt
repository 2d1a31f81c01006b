use Rattle.std.proofs.Common.{◌≡◌, length}
use Rattle.std.specs.Vec.{vec_capacity}
use Rattle.leaf_set.proofs.Emptied.{IsTaken}
use Rattle.leaf_set.proofs.flags.take_members.Given as goal

abbrev pub invariant-loop-leaf : goal.invariant-loop-leaf
invariant-loop-leaf l = record {
  taken : IsTaken l.fn.members.items l.members.items l.into.items l.leaf;
  same : length l.members.items ≡ length l.fn.members.items;
  end : l.count ≡ length l.fn.members.items;
  capacity : vec_capacity l.into ≡ vec_capacity l.fn.into;
}
