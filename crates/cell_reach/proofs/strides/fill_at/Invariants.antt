use Rattle.std.proofs.Common.{◌≡◌, map, take}
use Rattle.cell_grid.specs.declared.step.Step.{Step}
use Rattle.cell_grid.specs.Space.{neighbour_at}
use Rattle.cell_grid.specs.Steps.{offset_of_step}
use Rattle.cell_reach.proofs.strides.fill_at.Given as goal

abbrev pub invariant-loop-place : goal.invariant-loop-place
invariant-loop-place l = take l.place l.into ≡ map (λ (step : Step). neighbour_at l.fn.grid l.fn.from (offset_of_step step)) (take l.place l.steps)
