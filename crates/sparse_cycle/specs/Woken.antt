-- Which cells are woken, from the cells that gave output; and how many visits a cycle takes.
use Rattle.std.specs.Prelude.{◌≡◌, ℕ, ◌+◌, ◌<◌, ◌≤◌, Bool, true, false, ◌&&◌, Some, List, length}
use Rattle.std.specs.List.{list_any, filter, range_with_len}
use Rattle.cell_grid.specs.Space.{cell_count}
use Rattle.cell_grid.specs.Watched.{leads_to}
use Rattle.model_tree.specs.Tree.{Group, Tree, cell_leaf}
use Rattle.run_model.specs.Cycle.{LeafState, box_state, cell_state}
use Rattle.run_model.specs.Run.{PortRecord, RunState, next_instant}
use Rattle.run_model.specs.Fitting.{FitsTree}
use Rattle.run_model.specs.Visits.{cost, stopping_visits}
use Rattle.sparse_cycle.specs.Sparse.{leaf_of, gave_there, woken_by, due_leaves, given_among, cycle_parts}

-- a cell is woken just where it watches a cell that gave output
abbrev pub WokenWatch : Type 0
WokenWatch =
    (g : Group) (first cell : ℕ) (given : List PortRecord) → cell < cell_count g.space
    → woken_by given (cell_leaf g first cell)
    ≡ list_any (λ c. gave_there given (Some (first + c)) && leads_to g.space g.offsets c cell)
    (range_with_len 0 (cell_count g.space))

-- a cell, and no box
abbrev pub is_cell : LeafState → Bool
is_cell (box_state b) = false
is_cell (cell_state c) = true

-- a cell stands at this place
abbrev pub is_cell_at : List LeafState → ℕ → Bool
is_cell_at states l = is_cell (leaf_of states l)

-- each cell that is due gives a value: so there are no more of them than Y and N records
abbrev pub DueCellsGive : Type 0
DueCellsGive =
    (t : ℕ) (s : RunState)
    → length (filter (is_cell_at s.leaf_states) (due_leaves t s.leaf_states))
    ≤ length (given_among t s.leaf_states (due_leaves t s.leaf_states))

-- a cycle that stops costs what the values that were given and the touched leaves cost
abbrev pub CostsItsParts : Type 0
CostsItsParts =
    (tree : Tree) (t : ℕ) (s : RunState) → FitsTree tree s.leaf_states → next_instant s ≡ Some t
    → (let p = cycle_parts tree t s
    in stopping_visits tree t s ≡ cost tree (length p.given) (length p.touched))
