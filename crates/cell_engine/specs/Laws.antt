-- What a cell sees of its own group is what it sees of all leaves.
use Rattle.std.specs.Prelude.{◌≡◌, ℕ, ◌+◌, ◌<◌, Some, List, length, slice_get}
use Rattle.cell_grid.specs.Space.{cell_count}
use Rattle.model_tree.specs.Tree.{Group}
use Rattle.run_model.specs.CellStep.{CellState}
use Rattle.run_model.specs.Cycle.{LeafState, cell_state, sight_of}
use Rattle.cell_table.specs.Told.{cell_at}
use Rattle.cell_engine.specs.Cells.{sight_in}

-- among these leaves stand these cells, the first at this place
abbrev pub StandAt : ℕ → List CellState → List LeafState → Type 0
StandAt first cells states =
    (k : ℕ) → k < length cells → slice_get states (first + k) ≡ Some (cell_state (cell_at cells k))

-- for each cell of a group whose cells stand among the leaves
abbrev pub SeesItsGroup : Type 0
SeesItsGroup =
    (t : ℕ) (g : Group) (first i : ℕ) (cells : List CellState) (states : List LeafState)
    → length cells ≡ cell_count g.space → i < length cells → StandAt first cells states
    → sight_of t states g first i ≡ sight_in t g cells i
