use Rattle.std.proofs.Common.{◌≡◌, take, drop}
use Rattle.model_leaves.specs.Growing.{groups_in_all}
use Rattle.model_leaves.specs.Laying.{AreLaid}
use Rattle.model_leaves.proofs.laying.+lay.Given as goal

abbrev pub invariant-lay_all-loop-i : goal.invariant-lay_all-loop-i
invariant-lay_all-loop-i l =
    record {
      unvisited : goal.unvisited-lay_all-loop-i l;
      laid : AreLaid (take l.i l.fn.children) (take l.i l.children) l.fn.values.items;
      left : l.values.items ≡ drop (groups_in_all (take l.i l.fn.children)) l.fn.values.items;
    }
