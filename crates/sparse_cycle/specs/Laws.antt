-- A cycle is what the leaves that matter make of it.
use Rattle.std.specs.Prelude.{◌≡◌, ℕ, ◌<◌, ◌↔◌, Bool, true, Some, List, map, length, slice_index_or}
use Rattle.std.specs.List.{Contains, filter, range_with_len}
use Rattle.std.specs.List.Sorted.{IsStrictlyIncreasing}
use Rattle.model_tree.specs.Tree.{Tree}
use Rattle.run_model.specs.Run.{RunState, next_instant, next_cycle, cycled_at}
use Rattle.run_model.specs.Fitting.{FitsTree}
use Rattle.sparse_cycle.specs.Sparse.{Path, nowhere, sparse_at, sparse_next}

-- at the next instant of a run, whose states fit the leaves
abbrev pub CycleIsSparse : Type 0
CycleIsSparse =
    (tree : Tree) (t : ℕ) (s : RunState) → FitsTree tree s.leaf_states → next_instant s ≡ Some t
    → cycled_at tree t s ≡ sparse_at tree t s

-- the same with the tests for a verdict before it
abbrev pub NextIsSparse : Type 0
NextIsSparse =
    (tree : Tree) (end limit : ℕ) (s : RunState) → FitsTree tree s.leaf_states
    → next_cycle tree end limit s ≡ sparse_next tree end limit s (next_instant s)

-- the path of a number
abbrev pub path_at : List Path → ℕ → Path
path_at ps k = slice_index_or ps k nowhere

-- the numbers of the paths for which a test holds give just these paths
abbrev pub PathsByNumber : Type 0
PathsByNumber =
    (test : Path → Bool) (ps : List Path)
    → map (path_at ps) (filter (λ k. test (path_at ps k)) (range_with_len 0 (length ps)))
    ≡ filter test ps

-- a rising list is known by its members
abbrev pub RisingIsFiltered : Type 0
RisingIsFiltered =
    (test : ℕ → Bool) (n : ℕ) (ls : List ℕ) → IsStrictlyIncreasing ls
    → ((l : ℕ) → Contains ls l ↔ ((l < n) × (test l ≡ true)))
    → ls ≡ filter test (range_with_len 0 n)
