-- Where lists stand in others, and the node of a tree's first processor: words for what is made
-- processor by processor.
use Rattle.std.specs.Prelude.{◌≡◌, ℕ, ◌+◌, Some, List, [], ◌∷◌, slice_get, ⊤}
use Rattle.model_tree.specs.Tree.{Tree, coupled, cells, atomic, atomic_leaf}
use Rattle.served_tree.specs.Processors.{Node, coupled_node, group_node, leaf_node}

-- one list stands in another, from a place on
abbrev pub ContainsFrom : {X : Type 0} → List X → ℕ → List X → Type 0
ContainsFrom xs n [] = ⊤
ContainsFrom xs n (y ∷ ys) = (slice_get xs n ≡ Some y) × ContainsFrom xs (n + 1) ys

-- the node of a tree whose first leaf has this number
abbrev pub node_of : Tree → ℕ → Node
node_of (coupled name ins outs children links) first = coupled_node name ins outs links
node_of (cells g) first = group_node g
node_of (atomic name class settings) first = leaf_node first (atomic_leaf name class settings)
