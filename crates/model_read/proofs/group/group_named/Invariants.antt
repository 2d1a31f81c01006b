use Rattle.std.proofs.Common.{◌≡◌, drop}
use Rattle.model_tree.specs.Tree.{leaves}
use Rattle.model_leaves.specs.Leaves.{OfTree}
use Rattle.answer_model.specs.RunFiles.{group_at}
use Rattle.model_read.specs.Group.{IsPassed}
use Rattle.model_read.proofs.group.group_named.Given as goal

abbrev pub invariant-loop-leaf : goal.invariant-loop-leaf
invariant-loop-leaf l = record {
  passes : OfTree l.model (λ tree. group_at l.name (leaves tree) ≡ group_at l.name (drop l.leaf (leaves tree)));
  passed : IsPassed l.model l.name l.passed;
}
