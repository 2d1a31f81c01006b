-- The leaves that move, one after another: each over the states as they stand then, and each with
-- its next time.
use Rattle.std.specs.Prelude.{◌≡◌, ℕ, Option, Some, None, List, [], ◌∷◌, map, length, slice_set}
use Rattle.std.specs.List.{cons_option}
use Rattle.rule_tree.specs.declared.outcome.RuleStop.{RuleStop}
use Rattle.model_tree.specs.Tree.{Tree}
use Rattle.run_model.specs.Cycle.{LeafState, leaf_next, Moved, stayed, moved, stopped, after, next_of_all}
use Rattle.run_model.specs.Run.{PortRecord, StateRecord, RunState, record_of_move, next_instant}
use Rattle.run_model.specs.Fitting.{FitsTree}
use Rattle.time_queue.specs.Waiting.{least_time, leaves_at, without}
use Rattle.sparse_cycle.specs.Sparse.{leaf_of, move_at, due_leaves, cycle_parts, first_stop_among, moved_among, after_among}

-- the leaves, and for each the time that it waits for
pub record Stand : Type 0 where
  pub leaf_states : List LeafState
  pub waiting : List (Option ℕ)

-- a leaf has another state, and its next time
abbrev pub with_leaf : Stand → ℕ → LeafState → Stand
with_leaf st l s =
    record {
      leaf_states = slice_set st.leaf_states l s;
      waiting = slice_set st.waiting l (leaf_next s);
    }

-- a leaf that stops ends the walk; else how the leaves stand, and the S records
pub data Walked : Type 0 where
  stopped_walk : (leaf : ℕ) → RuleStop → Walked
  walked : Stand → List StateRecord → Walked

-- goes on unless the leaf stops
abbrev pub unless_stopped : ℕ → Moved → (Moved → Walked) → Walked
unless_stopped l stayed go = go stayed
unless_stopped l (moved s) go = go (moved s)
unless_stopped l (stopped why) go = stopped_walk l why

-- the record of a leaf before those of the leaves behind it
abbrev pub and_record : ℕ → Moved → Walked → Walked
and_record l m (stopped_walk leaf why) = stopped_walk leaf why
and_record l m (walked st rs) = walked st (cons_option (record_of_move l m) rs)

-- over these leaves, one after another
abbrev pub leaf_walk : Tree → ℕ → List PortRecord → List PortRecord → List ℕ → Stand → Walked
leaf_walk tree t given fed [] st = walked st []
leaf_walk tree t given fed (l ∷ ls) st =
    unless_stopped l (move_at tree t st.leaf_states given fed l) (λ m.
    and_record l m
    (leaf_walk tree t given fed ls (with_leaf st l (after (leaf_of st.leaf_states l) m))))

-- ---- the law

-- the times for which the leaves wait
abbrev pub waits : List LeafState → List (Option ℕ)
waits states = map leaf_next states

-- the same, from the first stop or all states and records at once
abbrev pub at_once : Option (ℕ × RuleStop) → List LeafState → List StateRecord → Walked
at_once None states rs = walked (record { leaf_states = states; waiting = waits states }) rs
at_once (Some p) states rs = stopped_walk p.0 p.1

-- walking over the touched leaves, from the queue without those that were due, is moving them all
-- at once
abbrev pub WalkIsAtOnce : Type 0
WalkIsAtOnce =
    (tree : Tree) (t : ℕ) (s : RunState) → next_instant s ≡ Some t
    → (let p = cycle_parts tree t s in
    leaf_walk tree t p.given p.fed p.touched
    (record { leaf_states = p.emitted; waiting = without t (waits s.leaf_states) })
    ≡ at_once (first_stop_among p.move p.touched) (after_among p.move p.touched p.emitted)
    (moved_among p.move p.touched))

-- a queue that waits as the leaves do
pub record QueueKnows : Type 0 where
  pub least : (states : List LeafState) → least_time (waits states) ≡ next_of_all states
  pub due : (states : List LeafState) (t : ℕ) → leaves_at t (waits states) ≡ due_leaves t states

-- each touched leaf has an S record, where none stops
abbrev pub EachMoves : Type 0
EachMoves =
    (tree : Tree) (t : ℕ) (s : RunState) → FitsTree tree s.leaf_states → next_instant s ≡ Some t
    → (let p = cycle_parts tree t s
    in first_stop_among p.move p.touched ≡ None
    → length (moved_among p.move p.touched) ≡ length p.touched)
