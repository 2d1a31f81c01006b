-- The paths of the routes are those of the tree, in its order.
use Rattle.std.specs.Prelude.{◌≡◌, ℕ, ◌++◌, List, map}
use Rattle.std.specs.List.{All, enumerate_from, flat_map}
use Rattle.model_leaves.specs.declared.path.Path.{Path}
use Rattle.model_leaves.specs.declared.path.TargetPort.{TargetPort}
use Rattle.model_leaves.specs.declared.path.TargetPort.TheVariants as target
use Rattle.model_tree.specs.Tree.{Word, Tree, ins_of}
use Rattle.model_tree.specs.Pull as P
use Rattle.model_leaves.specs.Numbered.{source_by_name, IsThere}
use Rattle.route_flat.specs.Nets.{Flat}
use Rattle.route_flat.specs.Ways.{paths_of, leaf_paths, top_paths}

-- a path of the tree: the leaf and its port, or 0 and an output of top, and the source
abbrev pub TreePath : Type 0
TreePath = ℕ × ℕ × P.Source

-- a path from a source to a leaf's port
abbrev pub tree_path : ℕ → ℕ → P.Source → TreePath
tree_path leaf port source = (leaf, port, source)

-- what is made of a number, a port and a source
abbrev pub made_to : {X : Type 0} → (ℕ → ℕ → P.Source → X) → TargetPort → P.Source → X
made_to make (target.Leaf leaf port) source = make leaf port.0 source
made_to make (target.TopOut out) source = make 0 out source

-- what is made of a path's ends
abbrev pub made_of : {X : Type 0} → (ℕ → ℕ → P.Source → X) → List Word → Path → X
made_of make ins p = made_to make p.to (source_by_name ins p.from)

-- the paths to ports with these sources, which belong to one leaf
abbrev pub made_at : {X : Type 0} → (ℕ → ℕ → P.Source → X) → ℕ × List (List P.Source) → List X
made_at make l = flat_map (λ (p : ℕ × List P.Source). map (make l.0 p.0) p.1) (enumerate_from 0 l.1)

-- the paths to all leaves, by leaf, port and place
abbrev pub made_in : {X : Type 0} → (ℕ → ℕ → P.Source → X) → List (List (List P.Source)) → List X
made_in make lists = flat_map (made_at make) (enumerate_from 0 lists)

-- the paths of these routes are those of the tree, and begin at inputs of top that there are
pub record PathsOfTree (t : Tree) (r : Flat) : Type 0 where
  pub parts : paths_of r ≡ leaf_paths r ++ top_paths r
  pub leaves : map (made_of tree_path (ins_of t)) (leaf_paths r) ≡ made_in tree_path (P.sources t)
  pub tops : map (made_of tree_path (ins_of t)) (top_paths r)
      ≡ made_at tree_path (0, P.top_sources t)
  pub inputs : All (λ (p : Path). IsThere (ins_of t) p.from) (paths_of r)
