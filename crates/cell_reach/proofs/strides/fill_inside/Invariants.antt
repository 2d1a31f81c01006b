use Rattle.std.proofs.Common.{◌≡◌, Some, map, take}
use Rattle.cell_reach.specs.Neighbourhoods.{further}
use Rattle.cell_reach.proofs.strides.fill_inside.Given as goal

abbrev pub invariant-loop-place : goal.invariant-loop-place
invariant-loop-place l = take l.place l.into ≡ map (λ d. Some (further l.fn.cell d)) (take l.place l.differences)
