-- Which leaves are woken by those that gave, and which are touched.
use Rattle.std.specs.Prelude.{◌≡◌, ℕ, ◌==◌, Bool, false, ◌||◌, Option, Some, None, List, length, slice_get}
use Rattle.std.specs.List.{list_any, filter, range_with_len}
use Rattle.model_tree.specs.Tree.{Tree, Leaf, atomic_leaf, cell_leaf, leaves}
use Rattle.run_model.specs.Cycle.{LeafState, neighbour_leaf}
use Rattle.run_model.specs.Run.{PortRecord}
use Rattle.sparse_cycle.specs.Sparse.{gave_there, is_woken_at, due_leaves, touched_leaves}
use Rattle.quantity.specs.Bytes.{has_number}

-- the leaf is the one that is there
abbrev pub is_this_leaf : ℕ → Option ℕ → Bool
is_this_leaf l None = false
is_this_leaf l (Some n) = l == n

-- a cell watches the leaves to which its offsets lead
abbrev pub watches : ℕ → Option Leaf → Bool
watches l None = false
watches l (Some (atomic_leaf name class settings)) = false
watches l (Some (cell_leaf g first cell)) =
    list_any (λ o. is_this_leaf l (neighbour_leaf g first cell o)) g.offsets

-- the leaf of the first number watches that of the second
abbrev pub watches_at : Tree → ℕ → ℕ → Bool
watches_at tree k l = watches l (slice_get (leaves tree) k)

-- a leaf is woken by one of these
abbrev pub woken_from : Tree → List ℕ → ℕ → Bool
woken_from tree givers k = list_any (watches_at tree k) givers

-- something is fed to the leaf
abbrev pub is_fed : List PortRecord → ℕ → Bool
is_fed fed k = list_any (λ (r : PortRecord). r.leaf == k) fed

-- the leaves that are marked, due or fed, rising
abbrev pub reached_leaves : (ℕ → Bool) → ℕ → List ℕ → List PortRecord → List ℕ
reached_leaves is_marked count due fed =
    filter (λ k. is_marked k || has_number due k || is_fed fed k) (range_with_len 0 count)

-- ---- the laws

-- a leaf is woken where it watches a giver
abbrev pub GiversWake : Type 0
GiversWake =
    (tree : Tree) (given : List PortRecord) (givers : List ℕ)
    → ((l : ℕ) → has_number givers l ≡ gave_there given (Some l))
    → (k : ℕ) → woken_from tree givers k ≡ is_woken_at given (slice_get (leaves tree) k)

-- where the woken leaves are marked, those that are reached are the touched ones
abbrev pub ReachedAreTouched : Type 0
ReachedAreTouched =
    (tree : Tree) (t : ℕ) (states : List LeafState) (given fed : List PortRecord)
    (is_marked : ℕ → Bool)
    → ((k : ℕ) → is_marked k ≡ is_woken_at given (slice_get (leaves tree) k))
    → reached_leaves is_marked (length states) (due_leaves t states) fed
    ≡ touched_leaves tree t states given fed
