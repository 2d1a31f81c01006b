use Rattle.std.proofs.Common.{◌≡◌, ◌++◌, take}
use Rattle.std.specs.List.{enumerate_from, flat_map}
use Rattle.route_flat.specs.Ways.{ways_to_top}
use Rattle.route_flat.proofs.ways.to_tops.Given as goal

abbrev pub invariant-loop-out : goal.invariant-loop-out
invariant-loop-out l =
    l.into.items ≡ l.fn.into.items ++ flat_map ways_to_top (enumerate_from 0 (take l.out l.lists.tops))
