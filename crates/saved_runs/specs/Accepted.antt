-- Accepted models, and where their runs may begin.
use Rattle.std.specs.Prelude.{◌≡◌, ℕ, ◌+◌, ◌<◌, Option, Some, None, List, length, Ok, ⊤, slice_get}
use Rattle.std.specs.Prelude.{IsSomeAnd}
use Rattle.std.specs.List.{All}
use Rattle.cell_grid.specs.Space.{cell_count}
use Rattle.quantity.specs.Bytes.{Bytes}
use Rattle.source_text.specs.Lines.{Files}
use Rattle.atomic_face.specs.declared.class.Class.{Class}
use Rattle.model_tree.specs.Tree.{Word, Group, Tree, Leaf, atomic_leaf, cell_leaf, leaves}
use Rattle.model_text.specs.Drawings.{Drawing}
use Rattle.model_text.specs.ModelOf.{model, model_of}
use Rattle.run_model.specs.Emitted.{IsCell}
use Rattle.text_forms.specs.StateOf.{Saved, state_of}
use Rattle.saved_runs.specs.Settled.{HasSettledBoxes}
use Rattle.answer_model.specs.RunFiles.{group_at}

-- the model of some file, with some files, boxes and drawing
pub record IsAccepted (t : Tree) : Type 0 where
  pub bytes : Bytes
  pub files : Files
  pub classes : List Class
  pub drawing : Option Drawing
  pub found : (model_of bytes files classes drawing).found ≡ model t

-- the boxes of an accepted model have the settings of parameters that are all of their form
abbrev pub ModelsAreSettled : Type 0
ModelsAreSettled = (t : Tree) → IsAccepted t → HasSettledBoxes t

-- a cell has a value for each further port and each variable of its group
abbrev pub HasValues : Leaf → Type 0
HasValues (atomic_leaf name class settings) = ⊤
HasValues (cell_leaf g first cell) =
    (length g.port_values ≡ length g.ports) × (length g.variable_values ≡ length g.variables)

-- each cell of an accepted model
abbrev pub ModelsHaveValues : Type 0
ModelsHaveValues = (t : Tree) → IsAccepted t → All HasValues (leaves t)

-- the cells of a group stand among the leaves from its first leaf on
abbrev pub GroupsStand : Type 0
GroupsStand =
    (t : Tree) (name : Word) (g : ℕ × Group) (cell : ℕ) → group_at name (leaves t) ≡ Some g
    → cell < cell_count g.1.space → IsSomeAnd (slice_get (leaves t) (g.0 + cell)) IsCell

-- a run begins at the start, or in the state that some text gives
abbrev pub IsRead : Tree → ℕ → Option Saved → Type 0
IsRead t end None = ⊤
IsRead t end (Some s) = (bytes : Bytes) × (state_of bytes t end ≡ Ok s)
