-- A state that fits a tree has one for each of its leaves.
use Rattle.std.proofs.Common.{◌≡◌, List, length, ◌∙◌}
use Rattle.std.proofs.lemmas.Slice.Zip.{AllZip-long}
use Rattle.model_tree.specs.Tree.{Tree, leaves, leaf_count}
use Rattle.model_leaves.proofs.Read.{leaves-length}
use Rattle.run_model.specs.Cycle.{LeafState}
use Rattle.run_model.specs.Fitting.{Fits, FitsTree}

pub leaves-counted : (tree : Tree) (states : List LeafState) → FitsTree tree states → length states ≡ leaf_count tree
leaves-counted tree states fits = AllZip-long Fits (leaves tree) states fits ∙ leaves-length tree 0
