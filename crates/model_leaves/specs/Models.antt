-- The plain tree of a model. The settings of the boxes are given by their numbers.
use Rattle.std.specs.Prelude.{ℕ, List, ℤ}
use Rattle.model_tree.specs.declared.component.Component.TheVariants.{Coupled as in_tree}
use Rattle.model_leaves.specs.declared.table.Model.{Model}
use Rattle.model_tree.specs.Tree.{Tree}
use Rattle.model_tree.specs.Stands.{part_of}

abbrev pub tree_of : Model → (ℕ → List ℤ) → Tree
tree_of m settings = part_of (in_tree m.top) settings
