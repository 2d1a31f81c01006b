use Rattle.std.proofs.Common.{◌≡◌, ◌≤◌, length, take, vec_len}
use Rattle.std.specs.List.{filter_map}
use Rattle.std.specs.Vec.{vec_capacity}
use Rattle.cell_grid.specs.declared.step.Step.{Step}
use Rattle.cell_grid.specs.Space.{neighbour_at}
use Rattle.cell_grid.specs.Steps.{offset_of_step}
use Rattle.cell_reach.proofs.strides.collect_at.Given as goal

abbrev pub invariant-loop-step : goal.invariant-loop-step
invariant-loop-step l = record {
  found : l.into.items ≡ filter_map (λ (t : Step). neighbour_at l.fn.grid l.fn.from (offset_of_step t)) (take l.step-index l.steps);
  few : vec_len l.into ≤ l.step-index;
  room : length l.steps ≤ vec_capacity l.into;
  same : vec_capacity l.into ≡ vec_capacity l.fn.into;
}
