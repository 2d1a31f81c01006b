-- When a leaf waits at its start.
use Rattle.std.specs.Prelude.{◌≡◌, Some, ⊤}
use Rattle.run_model.specs.CellStep.{cell_next}
use Rattle.run_model.specs.Cycle.{LeafState, box_state, cell_state}

-- a cell waits for 0, and a box for any time or none
abbrev pub WaitsAtStart : LeafState → Type 0
WaitsAtStart (box_state b) = ⊤
WaitsAtStart (cell_state c) = cell_next c ≡ Some 0
