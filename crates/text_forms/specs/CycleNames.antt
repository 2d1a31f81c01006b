-- The records of a cycle name leaves and ports of the model.
use Rattle.std.specs.Prelude.{◌≡◌, ℕ, Some, slice_get}
use Rattle.model_leaves.specs.declared.table.Model.{Model}
use Rattle.model_tree.specs.Tree.{Leaf, leaves}
use Rattle.model_leaves.specs.Models.{tree_of}
use Rattle.model_leaves.specs.Leaves.{Settings}
use Rattle.run_model.specs.Run.{Cycle}
use Rattle.run_model.specs.Fitting.{NamesItsParts}
pub use Rattle.text_forms.specs.LeafNames.{HasPortValues}
use Rattle.text_forms.specs.declared.records.Records.{Records}
use Rattle.text_forms.specs.Held.{Holds}
use Rattle.text_forms.specs.Named.{NamesLeaves}

-- so what is known of a run's cycles is what the log's lines need
abbrev pub CyclesNameLeaves : Type 0
CyclesNameLeaves =
    (m : Model) (settings : Settings) (records : Records) (c : Cycle)
    → ((k : ℕ) (l : Leaf) → slice_get (leaves (tree_of m settings)) k ≡ Some l → HasPortValues l)
    → NamesItsParts (tree_of m settings) c → Holds records c → NamesLeaves m records
