use Rattle.std.proofs.Common.{◌≡◌, map}
use Rattle.std.specs.List.{range_with_len}
use Rattle.route_flat.specs.Counts.{kept_count}
use Rattle.route_flat.proofs.counts.counts.Given as goal

abbrev pub invariant-loop-node : goal.invariant-loop-node
invariant-loop-node l = l.counts.items ≡ map (kept_count l.nodes) (range_with_len 0 l.node-index)
