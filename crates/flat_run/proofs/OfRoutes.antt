-- The paths of a tree's routes are the paths that a cycle asks for.
use Rattle.std.proofs.Common.{ℕ, refl}
use Rattle.model_tree.specs.Tree.{Tree, ins_of}
use Rattle.model_tree.specs.Pull as pull
use Rattle.model_leaves.specs.Numbered.{IsThere}
use Rattle.sparse_cycle.specs.Sparse as sparse
use Rattle.route_flat.specs.Nets.{Flat, RoutesOf}
use Rattle.route_flat.specs.Ways.{paths_of}
use Rattle.route_flat.proofs.Picked.{leaves-picked, tops-picked, all-begin}
use Rattle.cycle_steps.specs.Paths.{to_leaf, to_top, ArePathsOf}

abbrev path_to : ℕ → ℕ → pull.Source → sparse.Path
path_to l port s = record { to = l; port = port; source = s }

pub are-paths : (t : Tree) (r : Flat) → RoutesOf t r → ArePathsOf t (paths_of r)
are-paths t r of =
    record {
      leaves = leaves-picked path_to to_leaf (λ l port s. refl) (λ k s. refl) t r of;
      outputs = tops-picked path_to to_top (λ l port s. refl) (λ k s. refl) t r of;
      inputs = all-begin (IsThere (ins_of t)) r of.inputs of.top_inputs;
    }
