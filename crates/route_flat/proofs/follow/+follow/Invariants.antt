use Rattle.std.proofs.Common.{◌≡◌, ◌++◌, ◌+◌, ◌*◌, take}
use Rattle.std.specs.List.{flat_map}
use Rattle.port_net.specs.Nodes.{sources_at}
use Rattle.route_flat.proofs.follow.+follow.Given as goal

abbrev pub decreases-follow : goal.decreases-follow
decreases-follow l = 3 * l.node + 2

abbrev pub decreases-follow_all : goal.decreases-follow_all
decreases-follow_all l = 3 * l.node + 1

abbrev pub decreases-follow_one : goal.decreases-follow_one
decreases-follow_one l = 3 * l.node

abbrev pub invariant-follow_all-loop-other : goal.invariant-follow_all-loop-other
invariant-follow_all-loop-other l =
    l.into.items ≡ l.fn.into.items ++ flat_map (sources_at (take l.node l.nodes)) (take l.other-index l.older)
