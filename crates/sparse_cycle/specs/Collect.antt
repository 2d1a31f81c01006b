-- Leaves that give their output one after another: each over the states as they stand then.
use Rattle.std.specs.Prelude.{◌≡◌, ℕ, Bool, not, Some, List, [], ◌∷◌, ◌++◌, slice_set, ⊤}
use Rattle.std.specs.List.{filter, flat_map}
use Rattle.quantity.specs.Bytes.{has_number}
use Rattle.atomic_face.specs.Classes.{Bag}
use Rattle.run_model.specs.Cycle.{LeafState, leaf_next, leaf_emitted, collected_of}
use Rattle.run_model.specs.Run.{PortRecord, port_records, is_of_out}
use Rattle.sparse_cycle.specs.Sparse.{leaf_of, due_leaves, given_among, emitted_among, gave_there}

-- ---- the Y and N records among what was given

-- a record of a further port
abbrev pub is_of_further : PortRecord → Bool
is_of_further r = not (is_of_out r)

-- those of the ports out
abbrev pub y_of : List PortRecord → List PortRecord
y_of given = filter is_of_out given

-- those of further ports
abbrev pub n_of : List PortRecord → List PortRecord
n_of given = filter is_of_further given

-- ---- one after another

-- the leaf, where it gave something
abbrev pub giver_in : ℕ → Bag → List ℕ
giver_in l [] = []
giver_in l (o ∷ os) = l ∷ []

-- the Y and N records of leaves, those that gave something, and how all leaves stand then
pub record Collected : Type 0 where
  pub y : List PortRecord
  pub n : List PortRecord
  pub givers : List ℕ
  pub leaf_states : List LeafState

-- what a leaf gave, before what those behind it gave
abbrev pub and_given : ℕ → Bag → Collected → Collected
and_given l bag c =
    record {
      y = y_of (port_records (l, bag)) ++ c.y;
      n = n_of (port_records (l, bag)) ++ c.n;
      givers = giver_in l bag ++ c.givers;
      leaf_states = c.leaf_states;
    }

-- these leaves, one after another
abbrev pub collect_each : ℕ → List ℕ → List LeafState → Collected
collect_each t [] states = record { y = []; n = []; givers = []; leaf_states = states }
collect_each t (l ∷ ls) states =
    and_given l (collected_of t (leaf_of states l))
    (collect_each t ls (slice_set states l (leaf_emitted t (leaf_of states l))))

-- each is due when its turn comes
abbrev pub CanCollect : ℕ → List ℕ → List LeafState → Type 0
CanCollect t [] states = ⊤
CanCollect t (l ∷ ls) states =
    (leaf_next (leaf_of states l) ≡ Some t)
    × CanCollect t ls (slice_set states l (leaf_emitted t (leaf_of states l)))

-- ---- the laws

-- those of these leaves that give something
abbrev pub givers_among : ℕ → List LeafState → List ℕ → List ℕ
givers_among t states ls = flat_map (λ l. giver_in l (collected_of t (leaf_of states l))) ls

-- what leaves give at once
abbrev pub collected_at_once : ℕ → List LeafState → List ℕ → Collected
collected_at_once t states ls =
    record {
      y = y_of (given_among t states ls);
      n = n_of (given_among t states ls);
      givers = givers_among t states ls;
      leaf_states = emitted_among t states ls;
    }

-- the due leaves give one after another what they give at once
abbrev pub CollectsAtOnce : Type 0
CollectsAtOnce =
    (t : ℕ) (states : List LeafState)
    → collect_each t (due_leaves t states) states ≡ collected_at_once t states (due_leaves t states)

-- each due leaf is due when its turn comes
abbrev pub DueCanCollect : Type 0
DueCanCollect = (t : ℕ) (states : List LeafState) → CanCollect t (due_leaves t states) states

-- the givers are the leaves of which there are records
abbrev pub GiversGave : Type 0
GiversGave =
    (t l : ℕ) (states : List LeafState) (ls : List ℕ)
    → has_number (givers_among t states ls) l ≡ gave_there (given_among t states ls) (Some l)
