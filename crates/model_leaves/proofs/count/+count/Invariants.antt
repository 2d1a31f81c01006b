use Rattle.std.proofs.Common.{◌≡◌, take}
use Rattle.model_leaves.specs.Counted.{leaves_in_all}
use Rattle.model_leaves.proofs.count.+count.Given as goal

abbrev pub invariant-leaves_of_all-loop-child : goal.invariant-leaves_of_all-loop-child
invariant-leaves_of_all-loop-child l = l.total ≡ leaves_in_all (take l.child-index l.children)
