use Rattle.std.proofs.Common.{◌≡◌, ◌++◌, take}
use Rattle.route_flat.specs.Ways.{ways_at}
use Rattle.route_flat.proofs.ways.to_port.Given as goal

abbrev pub invariant-loop-place : goal.invariant-loop-place
invariant-loop-place l = l.into.items ≡ l.fn.into.items ++ ways_at l.to (take l.place l.sources)
