-- The cells of a group, as a store keeps them, and what its calls make of them.
use Rattle.std.specs.Prelude.{◌≡◌, ℕ, ◌+◌, Bool, List, length, map, slice_set, ⊤}
use Rattle.std.specs.List.{All}
use Rattle.std.specs.declared.result.Result.{Result}
use Rattle.std.specs.declared.result.Result.TheVariants.{Ok, Err}
use Rattle.rule_tree.specs.Meaning.{Sight}
use Rattle.atomic_face.specs.Classes.{Bag}
use Rattle.model_tree.specs.Tree.{Group}
use Rattle.run_model.specs.declared.stop.LeafStop.{LeafStop}
use Rattle.run_model.specs.declared.stop.LeafStop.TheVariants.{Rule, Memory}
use Rattle.run_model.specs.CellStep.{PortState, CellState, Stepped, cell_moved}
use Rattle.run_model.specs.Cycle.{cell_state, sight_of}
use Rattle.run_model.specs.Waiting.{RisesFrom}
use Rattle.cell_table.specs.Told.{cell_at}
use Rattle.cell_engine.specs.Layout.{Layout}

-- the cells, and what is kept of their group
pub record Cells : Type 0 where
  pub layout : Layout
  pub cells : List CellState

-- the cells with this one at its place
abbrev pub with_cell_state : Cells → ℕ → CellState → Cells
with_cell_state s i c = record { layout = s.layout; cells = slice_set s.cells i c }

-- ---- a step

-- what cell i sees of the cells of its group
abbrev pub sight_in : ℕ → Group → List CellState → ℕ → Sight
sight_in t g cells i = sight_of t (map cell_state cells) g 0 i

-- what the reference makes of a cell that moves over the cells as they stand
abbrev pub computed_at : ℕ → Group → List CellState → ℕ → Bool → Bag → Stepped
computed_at t g cells i woken bag =
    cell_moved g i t woken (sight_in t g cells i) bag (cell_at cells i)

-- the cell is what the step makes of it, and each stop but want of memory comes just where the step
-- stops so
abbrev pub Computes : {U : Type 0} → ℕ → List CellState → List CellState → Stepped
    → Result U LeafStop → Type 0
Computes i old new (Ok c) (Ok u) = new ≡ slice_set old i c
Computes i old new (Ok c) (Err Memory) = ⊤
Computes i old new (Ok c) (Err (Rule stop)) = ⊥
Computes i old new (Err why) (Ok u) = ⊥
Computes i old new (Err why) (Err Memory) = ⊤
Computes i old new (Err why) (Err (Rule stop)) = stop ≡ why

-- ---- a state that is put

-- it has the group's ports and variables, and the times of each list rise
pub record CanBePut (l : Layout) (c : CellState) : Type 0 where
  pub ports : length c.ports ≡ l.ports + 1
  pub variables : length c.variables ≡ l.variables
  pub rising : All (λ (p : PortState). RisesFrom 0 p.pairs) c.ports
