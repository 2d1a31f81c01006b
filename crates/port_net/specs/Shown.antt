-- What nodes show of the tree's sources, whatever nodes are put behind them later.
use Rattle.std.specs.Prelude.{◌≡◌, ℕ, List, [], ◌∷◌, ◌++◌, map, if◌then◌else◌, Bool, true, false, Option, Some, None, ⊤}
use Rattle.std.specs.List.{AllByRecursion, flat_map}
use Rattle.model_tree.specs.declared.link.End.{End}
use Rattle.model_tree.specs.declared.link.Link.{Link}
use Rattle.model_leaves.specs.declared.path.Source.TheVariants.{Leaf, TopIn}
use Rattle.model_tree.specs.Tree.{Word}
use Rattle.model_tree.specs.Pull as P
use Rattle.model_leaves.specs.Numbered.{source_by_name}
use Rattle.port_net.specs.declared.net.Node.{Node}
use Rattle.port_net.specs.declared.net.Node.TheVariants.{Given, Joins}
use Rattle.port_net.specs.Nodes.{sources_at}

-- the list at a node, with the names of the inputs of top
abbrev pub plain_sources : List Word → List Node → ℕ → List P.Source
plain_sources ins ns k = map (source_by_name ins) (sources_at ns k)

-- one node shows this list
abbrev pub Gives : List Word → List Node → ℕ → List P.Source → Type 0
Gives ins ns k xs = (more : List Node) → plain_sources ins (ns ++ more) k ≡ xs

-- each of these nodes shows its list
abbrev pub AllGive : List Word → List Node → List ℕ → List (List P.Source) → Type 0
AllGive ins ns ks xss = (more : List Node) → map (plain_sources ins (ns ++ more)) ks ≡ xss

-- these nodes show this list, one behind another
abbrev pub Join : List Word → List Node → List ℕ → List P.Source → Type 0
Join ins ns ks xs = (more : List Node) → flat_map (plain_sources ins (ns ++ more)) ks ≡ xs

-- no input of top is given here
abbrev pub IsInner : Node → Type 0
IsInner (Given (Leaf l)) = ⊤
IsInner (Given (TopIn k)) = ⊥
IsInner (Joins ks) = ⊤

-- nodes were put behind the others, none of them an input of top
pub record Extends (old new : List Node) : Type 0 where
  pub more : List Node
  pub grown : new ≡ old ++ more
  pub inner : AllByRecursion IsInner more

-- what a leaf gives
abbrev pub leaf_list : ℕ → List P.Source
leaf_list n = P.leaf_source n ∷ []

-- the items of a list beside links, of those links that lead to such an end
abbrev pub items_of_links : {A : Type 0} → (End → Bool) → List Link → List A → List A
items_of_links into [] xs = []
items_of_links into (l ∷ ls) [] = []
items_of_links into (l ∷ ls) (x ∷ xs) =
    if into l.to then x ∷ items_of_links into ls xs else items_of_links into ls xs

-- an item, if there is one and it is wanted
abbrev pub one_if : {A : Type 0} → Bool → Option A → List A
one_if true (Some x) = x ∷ []
one_if true None = []
one_if false o = []

-- the node of an input of top
abbrev pub input_node : ℕ → Node
input_node k = Given (TopIn k)
