-- A leaf as text.
use Rattle.std.specs.Prelude.{ℕ, ◌∷◌, ◌++◌, None, Some, take}
use Rattle.std.specs.Prelude.{codes, decimal}
use Rattle.quantity.specs.Bytes.{Bytes}
use Rattle.rule_tree.specs.Meaning.{coordinates}
use Rattle.cell_grid.specs.Space.{Space, place_of, dims_of}
use Rattle.model_tree.specs.Tree.{Leaf, atomic_leaf, cell_leaf}
use Rattle.model_leaves.specs.LeafTexts.{at_text}

-- what stands behind row and column; only private clauses name this
abbrev pub plane_text : Space → ℕ → Bytes
plane_text s n = elim s.planes [ None ↦ codes ")" | Some k ↦ 44 ∷ (decimal n ++ codes ")") ]

-- an atomic component's name; of a cell, the group's name and two or three coordinates
abbrev pub leaf_text : Leaf → Bytes
leaf_text (atomic_leaf name class settings) = name
leaf_text (cell_leaf g first cell) =
    g.name ++ at_text (take (dims_of g.space) (coordinates (place_of g.space cell)))
