-- What one cycle makes of leaves, queue, events and records.
use Rattle.std.specs.Prelude.{◌≡◌, ℕ, ◌==◌, not, Option, None, List, length}
use Rattle.std.specs.List.{filter}
use Rattle.std.specs.declared.result.Result.{Result}
use Rattle.std.specs.declared.result.Result.TheVariants.{Ok, Err}
use Rattle.event_list.specs.Events.{Event}
use Rattle.model_tree.specs.Tree.{Tree}
use Rattle.run_model.specs.Cycle.{LeafState}
use Rattle.run_model.specs.Run.{RunState, next_instant}
use Rattle.run_model.specs.Visits.{cost}
use Rattle.run_model.specs.declared.stop.Stop.{Stop}
use Rattle.run_model.specs.Stopping.{StopsCycle}
use Rattle.text_forms.specs.declared.records.Records.{Records}
use Rattle.text_forms.specs.Held.{Holds}
use Rattle.sparse_cycle.specs.Sparse.{Parts, cycle_parts, first_stop_among, after_among, cycle_of_parts}
use Rattle.sparse_cycle.specs.Walk.{waits}
use Rattle.run_leaves.specs.Seated.{Seated, tree_at}

-- ---- before a cycle

-- the tree of the model whose leaves these are
abbrev pub tree_by : Seated → Tree
tree_by leaves = tree_at leaves.model leaves.settings

-- a state of a run with these leaves and events
abbrev pub standing_at : List LeafState → List Event → RunState
standing_at states events = record { leaf_states = states; events = events; last = None; count = 0 }

-- the least next time of a leaf or event
abbrev pub instant_of : List LeafState → List Event → Option ℕ
instant_of states events = next_instant (standing_at states events)

-- what the cycle at an instant is made of
abbrev pub parts_at : Seated → List Event → ℕ → Parts
parts_at leaves events t = cycle_parts (tree_by leaves) t (standing_at leaves.states events)

-- ---- after a cycle

-- the events that are not of this time
abbrev pub later : ℕ → List Event → List Event
later t events = filter (λ (e : Event). not (e.time == t)) events

-- no leaf stops: how all leaves stand, for which times they wait, which of the events are left, and
-- the records
pub record RanTo (t : ℕ) (p : Parts) (events : List Event) (states : List LeafState)
    (waiting : List (Option ℕ)) (left : List Event) (records : Records) : Type 0 where
  pub none : first_stop_among p.move p.touched ≡ None
  pub states_are : states ≡ after_among p.move p.touched p.emitted
  pub waiting_are : waiting ≡ waits states
  pub left_are : left ≡ later t events
  pub records_are : Holds records (cycle_of_parts t p)

-- a cycle by how it ends
abbrev pub Runs : {U : Type 0} → ℕ → Parts → List Event → List LeafState → List (Option ℕ)
    → List Event → Records → Result U Stop → Type 0
Runs t p events states waiting left records (Ok u) = RanTo t p events states waiting left records
Runs t p events states waiting left records (Err stop) =
    StopsCycle t (first_stop_among p.move p.touched) stop

-- the most visits of a cycle
abbrev pub visits_in : Tree → Parts → ℕ
visits_in tree p = cost tree (length p.given) (length p.touched)
