-- Private: how the leaves of a part are called.
use Rattle.std.specs.Prelude.{ℕ, ◌<◌, ◌++◌, List, [], ◌∷◌, take, codes}
use Rattle.rule_tree.specs.Meaning.{coordinates}
use Rattle.cell_grid.specs.Space.{cell_count, place_of, dims_of}
use Rattle.model_leaves.specs.declared.table.PartAt.{PartAt}
use Rattle.model_leaves.specs.declared.table.PartAt.TheVariants.{Atomic, Cells}
use Rattle.model_tree.specs.Tree.{Word}
use Rattle.model_leaves.specs.LeafTexts.{at_text}

-- the name of a box, or of a cell with its coordinates
abbrev pub part_text : PartAt → Word → ℕ → Word
part_text (Atomic box) name cell = name
part_text (Cells group grid ports) name cell =
    name ++ at_text (take (dims_of grid) (coordinates (place_of grid cell)))

-- the output ports of a box, or of a group's cells
abbrev pub part_outs : PartAt → List Word
part_outs (Atomic box) = codes "out" ∷ []
part_outs (Cells group grid ports) = codes "out" ∷ ports.items

-- a group has a cell of this number
abbrev pub HasCell : PartAt → ℕ → Type 0
HasCell (Atomic box) cell = Unit {0}
HasCell (Cells group grid ports) cell = cell < cell_count grid
