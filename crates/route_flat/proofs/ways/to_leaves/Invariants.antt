use Rattle.std.proofs.Common.{◌≡◌, ◌++◌, take}
use Rattle.std.specs.List.{enumerate_from, flat_map}
use Rattle.route_flat.specs.Ways.{ways_to_leaf}
use Rattle.route_flat.proofs.ways.to_leaves.Given as goal

abbrev pub invariant-loop-leaf : goal.invariant-loop-leaf
invariant-loop-leaf l =
    l.into.items ≡ l.fn.into.items ++ flat_map ways_to_leaf (enumerate_from 0 (take l.leaf l.lists.ports))
