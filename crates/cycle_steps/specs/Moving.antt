-- What the move of one leaf makes of all leaves, and what a walk over leaves comes to.
use Rattle.std.specs.Prelude.{◌≡◌, ℕ, Bool, Option, Some, None, List, map, slice_get, slice_set, ⊤}
use Rattle.std.specs.declared.result.Result.{Result}
use Rattle.std.specs.declared.result.Result.TheVariants.{Ok, Err}
use Rattle.atomic_face.specs.Classes.{Bag}
use Rattle.model_tree.specs.Tree.{Tree, leaves}
use Rattle.run_model.specs.Cycle.{LeafState, leaf_next, Moved, stayed, moved, stopped}
use Rattle.run_model.specs.Run.{computed_of}
use Rattle.text_forms.specs.declared.records.SRecord.{SRecord}
use Rattle.text_forms.specs.Held.{s_at}
use Rattle.sparse_cycle.specs.Sparse.{leaf_of, move_to}
use Rattle.sparse_cycle.specs.Walk.{Stand, Walked, stopped_walk, walked}
use Rattle.cycle_steps.specs.declared.told.Told.{Told}
use Rattle.run_model.specs.declared.stop.LeafStop.{LeafStop}
use Rattle.run_model.specs.declared.stop.LeafStop.TheVariants as leaf
use Rattle.run_model.specs.declared.stop.Stop.{Stop}
use Rattle.run_model.specs.Stopping.{StopsCycle}

-- ---- one leaf

-- what a leaf of a model becomes with this bag, woken or not
abbrev pub move_of : Tree → ℕ → List LeafState → Bool → Bag → ℕ → Moved
move_of tree t states woken bag l =
    move_to t states woken bag (slice_get (leaves tree) l) (leaf_of states l)

-- a leaf that moved: how all leaves stand then, and what is told of it
pub record HasMoved (old new : List LeafState) (l : ℕ) (told : Told) (x : LeafState) : Type 0 where
  pub states_are : new ≡ slice_set old l x
  pub value_is : told.value ≡ computed_of x
  pub next_is : told.next ≡ leaf_next x

-- a leaf moves or stops; one that is asked to move doesn't stay
abbrev pub Moves : List LeafState → List LeafState → ℕ → Moved → Result Told LeafStop → Type 0
Moves old new l stayed (Ok told) = ⊥
Moves old new l (moved x) (Ok told) = HasMoved old new l told x
Moves old new l (stopped why) (Ok told) = ⊥
Moves old new l stayed (Err (leaf.Rule stop)) = ⊥
Moves old new l (moved x) (Err (leaf.Rule stop)) = ⊥
Moves old new l (stopped why) (Err (leaf.Rule stop)) = stop ≡ why
Moves old new l m (Err leaf.Memory) = ⊤

-- ---- all leaves

-- the leaves and the times for which they wait
abbrev pub stand_of : List LeafState → List (Option ℕ) → Stand
stand_of states waiting = record { leaf_states = states; waiting = waiting }

-- all leaves have moved, and these are the S records; or this is the first that stops
abbrev pub WalksTo : {U : Type 0} → ℕ → Walked → List LeafState → List (Option ℕ) → List SRecord
    → Result U Stop → Type 0
WalksTo t (walked st rs) states waiting s (Ok u) =
    (st ≡ stand_of states waiting) × (s ≡ map (s_at t) rs)
WalksTo t (stopped_walk l why) states waiting s (Ok u) = ⊥
WalksTo t (walked st rs) states waiting s (Err stop) = StopsCycle t None stop
WalksTo t (stopped_walk l why) states waiting s (Err stop) = StopsCycle t (Some (l, why)) stop
