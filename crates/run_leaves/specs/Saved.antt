-- What is told of the state of one leaf.
use Rattle.std.specs.Prelude.{Bool, true, false, List, [], ℤ}
use Rattle.run_model.specs.Cycle.{LeafState, box_state, cell_state}

-- a cell, and no box
abbrev pub is_cell_state : LeafState → Bool
is_cell_state (box_state b) = false
is_cell_state (cell_state c) = true

-- the numbers of a box's state
abbrev pub words_of : LeafState → List ℤ
words_of (box_state b) = b.state
words_of (cell_state c) = []
