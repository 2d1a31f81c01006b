-- How code holds steps.
use Rattle.quantity.specs.declared.place.Offset.{Offset}
use Rattle.cell_grid.specs.declared.step.Step.{Step}

-- a step as an offset
abbrev pub offset_of_step : Step → Offset
offset_of_step t = record { row = t.rows; column = t.columns; plane = t.planes }
