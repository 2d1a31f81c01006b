-- Private: what the cells of a group have emitted last, as frames show it before the first cycle.
use Rattle.std.specs.Prelude.{◌≡◌, ℕ, ◌+◌, ◌<◌, Option, Some, None, List, length, slice_get, IsTrue, ⊤}
use Rattle.quantity.specs.declared.value.Value.{Value}
use Rattle.cell_grid.specs.Space.{cell_count}
use Rattle.run_model.specs.Cycle.{LeafState}
use Rattle.sparse_cycle.specs.Sparse.{leaf_of}
use Rattle.run_leaves.specs.Saved.{is_cell_state}
use Rattle.answer_model.specs.RunFiles.{emitted_of}
use Rattle.run_loop.specs.Showing.{Showing, showing_from}

-- what a leaf has emitted last
abbrev pub given_by : List LeafState → ℕ → Value
given_by states leaf = emitted_of (slice_get states leaf)

-- the group's cells have these values
abbrev pub with_emitted : List LeafState → Showing → Showing
with_emitted states w =
    showing_from w.first w.drawing.picture (λ cell. given_by states (w.first + cell))

-- the leaves of the group that is drawn, if any, are cells
abbrev pub AreCells : List LeafState → Option Showing → Type 0
AreCells states None = ⊤
AreCells states (Some w) =
    (cell : ℕ) → cell < cell_count w.drawing.picture.space
    → (w.first + cell < length states) × IsTrue (is_cell_state (leaf_of states (w.first + cell)))

-- a value stands for each cell of the group that is drawn, if any, and no instant was begun
pub record IsUnbegun (w : Showing) : Type 0 where
  pub begun : w.drawing.begun ≡ None
  pub whole : length w.drawing.values ≡ cell_count w.drawing.picture.space

abbrev pub AreUnbegun : Option Showing → Type 0
AreUnbegun None = ⊤
AreUnbegun (Some w) = IsUnbegun w
