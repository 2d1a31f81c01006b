-- What no call changes of the leaves of a run.
use Rattle.std.specs.Prelude.{List, ℤ}
use Rattle.model_leaves.specs.declared.table.Model.{Model}

-- the model, and the settings of its boxes by their numbers
pub record Kept : Type 0 where
  pub model : Model
  pub settings : List (List ℤ)
