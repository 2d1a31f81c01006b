use Rattle.std.proofs.Common.{◌≡◌, take}
use Rattle.route_flat.specs.Counts.{sum_of}
use Rattle.route_flat.proofs.counts.sum_of.Given as goal

abbrev pub invariant-loop-node : goal.invariant-loop-node
invariant-loop-node l = l.total ≡ sum_of (take l.node-index l.nodes) l.counts
