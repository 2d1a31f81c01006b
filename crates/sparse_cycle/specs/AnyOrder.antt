-- Leaves that move in any order: each sees what all gave, whichever of the others have moved.
use Rattle.std.specs.Prelude.{◌≡◌, ℕ, Bool, false, Option, Some, List, [], map, slice_set}
use Rattle.atomic_face.specs.Classes.{Bag}
use Rattle.model_tree.specs.Tree.{Leaf}
use Rattle.run_model.specs.Cycle.{LeafState, leaf_emitted, collected_of, emitted_in, leaf_moved, after}
use Rattle.run_model.specs.Run.{RunState, next_instant}
use Rattle.sparse_cycle.specs.Sparse.{leaf_of, is_due, move_to}

-- each leaf has emitted the same
abbrev pub SeeAlike : List LeafState → List LeafState → Type 0
SeeAlike now then' = (j : ℕ) → emitted_in now j ≡ emitted_in then' j

-- a leaf that has emitted, and not yet moved, becomes what it becomes in the cycle, over states in
-- which any others have moved
abbrev pub BecomesTheSame : Type 0
BecomesTheSame =
    (t l : ℕ) (states now : List LeafState) (woken : Bool) (bag : Bag) (leaf : Leaf)
    → SeeAlike now (map (leaf_emitted t) states)
    → leaf_of now l ≡ leaf_emitted t (leaf_of states l)
    → move_to t now woken bag (Some leaf) (leaf_of now l)
    ≡ leaf_moved t (map (leaf_emitted t) states) woken bag leaf (leaf_of states l)

-- a leaf that moves changes nothing that is seen
abbrev pub MovesUnseen : Type 0
MovesUnseen =
    (t l : ℕ) (now : List LeafState) (woken : Bool) (bag : Bag) (leaf : Option Leaf)
    → SeeAlike
    (slice_set now l (after (leaf_of now l) (move_to t now woken bag leaf (leaf_of now l)))) now

-- a leaf that isn't due gives nothing, and its emission changes nothing
pub record IsQuiet (t l : ℕ) (states : List LeafState) : Type 0 where
  pub gives : collected_of t (leaf_of states l) ≡ []
  pub stays : leaf_emitted t (leaf_of states l) ≡ leaf_of states l

abbrev pub UndueAreQuiet : Type 0
UndueAreQuiet =
    (t l : ℕ) (s : RunState) → next_instant s ≡ Some t → is_due t s.leaf_states l ≡ false
    → IsQuiet t l s.leaf_states
