-- A leaf that gives or moves still fits.
use Rattle.std.specs.Prelude.{ℕ, List, slice_set}
use Rattle.model_tree.specs.Tree.{Tree}
use Rattle.run_model.specs.Cycle.{LeafState, leaf_emitted, after}
use Rattle.run_model.specs.Run.{PortRecord}
use Rattle.run_model.specs.Fitting.{FitsTree}
use Rattle.sparse_cycle.specs.Sparse.{leaf_of, move_at}

-- states still fit when a leaf has given its output
abbrev pub EmissionFits : Type 0
EmissionFits =
    (tree : Tree) (t l : ℕ) (states : List LeafState) → FitsTree tree states
    → FitsTree tree (slice_set states l (leaf_emitted t (leaf_of states l)))

-- and when a leaf has moved
abbrev pub MoveFits : Type 0
MoveFits =
    (tree : Tree) (t l : ℕ) (states : List LeafState) (given fed : List PortRecord)
    → FitsTree tree states
    → FitsTree tree
    (slice_set states l (after (leaf_of states l) (move_at tree t states given fed l)))
