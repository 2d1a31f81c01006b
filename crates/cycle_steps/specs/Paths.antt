-- The paths of a model, as they are numbered.
use Rattle.std.specs.Prelude.{◌≡◌, Option, Some, None, List}
use Rattle.std.specs.List.{All, filter_map}
use Rattle.model_leaves.specs.declared.path.Path.{Path}
use Rattle.model_leaves.specs.declared.path.TargetPort.{TargetPort}
use Rattle.model_leaves.specs.declared.path.TargetPort.TheVariants as target
use Rattle.model_tree.specs.Tree.{Word, Tree, ins_of}
use Rattle.model_tree.specs.Pull as pull
pub use Rattle.model_leaves.specs.Numbered.{source_by_name, IsThere, IsPortOf, leaf_in, target_leaves}
use Rattle.sparse_cycle.specs.Sparse as sparse

-- a path to a leaf
abbrev pub to_leaf : TargetPort → pull.Source → Option sparse.Path
to_leaf (target.Leaf l port) s = Some (record { to = l; port = port.0; source = s })
to_leaf (target.TopOut k) s = None

-- a path to an output of top
abbrev pub to_top : TargetPort → pull.Source → Option sparse.Path
to_top (target.Leaf l port) s = None
to_top (target.TopOut k) s = Some (record { to = 0; port = k; source = s })

-- the paths to leaves among these
abbrev pub leaf_paths : List Word → List Path → List sparse.Path
leaf_paths ins ps = filter_map (λ (p : Path). to_leaf p.to (source_by_name ins p.from)) ps

-- the paths to outputs of top among these
abbrev pub top_paths : List Word → List Path → List sparse.Path
top_paths ins ps = filter_map (λ (p : Path). to_top p.to (source_by_name ins p.from)) ps

-- all paths of a model, with the inputs of top by their numbers
pub record ArePathsOf (tree : Tree) (ps : List Path) : Type 0 where
  pub leaves : leaf_paths (ins_of tree) ps ≡ sparse.paths tree
  pub outputs : top_paths (ins_of tree) ps ≡ sparse.out_paths tree
  pub inputs : All (λ (p : Path). IsThere (ins_of tree) p.from) ps
