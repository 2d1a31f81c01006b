use Rattle.std.proofs.Common.{◌≡◌, map, take}
use Rattle.cell_reach.specs.Neighbourhoods.{further}
use Rattle.cell_reach.proofs.strides.write_inside.Given as goal

abbrev pub invariant-loop-place : goal.invariant-loop-place
invariant-loop-place l = take l.place l.into ≡ map (further l.fn.cell) (take l.place l.differences)
