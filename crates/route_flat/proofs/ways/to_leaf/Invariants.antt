use Rattle.std.proofs.Common.{◌≡◌, ◌++◌, [], take, get_or}
use Rattle.std.specs.List.{enumerate_from, flat_map}
use Rattle.route_flat.specs.Ways.{ways_to_port}
use Rattle.route_flat.proofs.ways.to_leaf.Given as goal

abbrev pub invariant-loop-port : goal.invariant-loop-port
invariant-loop-port l =
    l.into.items ≡ l.fn.into.items ++ flat_map (ways_to_port l.leaf) (enumerate_from 0 (take l.port (get_or l.lists.ports l.leaf [])))
