-- What a cycle finds, and what it leaves.
use Rattle.std.proofs.Common.{◌≡◌, ℕ, suc, ◌+◌, ◌*◌, ◌<◌, ◌≤◌, Bool, Option, Some, List, length, refl, sym, ◌∙◌, ap, subst, arith}
use Rattle.std.specs.Prelude.{◌==◌, not}
use Rattle.std.specs.List.{sum_by}
use Rattle.std.proofs.lemmas.List.{length-map}
use Rattle.quantity.specs.declared.value.Value.{Value}
use Rattle.event_list.specs.Events.{Event}
use Rattle.model_tree.specs.Tree.{Tree, groups, ins_of, leaf_count}
use Rattle.run_model.specs.Cycle.{LeafState, leaf_next}
use Rattle.run_model.specs.Run.{RunState, next_instant, next_cycle, cycles_at, cycled, unless_stop}
use Rattle.run_model.specs.Fitting.{FitsTree, CycleFits}
use Rattle.run_model.specs.Visits.{most_offsets}
use Rattle.route_flat.specs.Nets.{Flat}
use Rattle.route_flat.specs.Ways.{paths_of}
use Rattle.text_forms.specs.declared.records.Records.{Records}
use Rattle.sparse_cycle.specs.Laws.{NextIsSparse}
use Rattle.sparse_cycle.specs.Sparse.{cycle_parts, cycle_of_parts, state_of_parts}
use Rattle.sparse_cycle.specs.Collect.{y_of, n_of}
use Rattle.sparse_cycle.specs.Feed.{AreAtInputs, inputs_at}
use Rattle.cycle_steps.specs.Gathering.{value_count}
use Rattle.cycle_steps.specs.Half.{due_give, IsRunOf}
use Rattle.run_leaves.specs.Seated.{Seated, visits_at}
use Rattle.run_leaves.specs.Watching.{Watching, watches_by}
use Rattle.run_leaves.proofs.Counted.{leaves-counted}
use Rattle.flat_run.specs.Holds.{IsFrameOf, GoesOn}
use Rattle.flat_run.specs.Running.{standing_at, later, RanTo, visits_in}
use Rattle.flat_run.proofs.Instants.{all-left, next-by-parts}
use Rattle.flat_run.proofs.Costs.{parted}
use Rattle.flat_run.proofs.Ran.{moves-cost}

-- ---- before

-- as many times are waited for as there are leaves
pub waiting-counted : (tree : Tree) (leaves : Seated) (waiting : List (Option ℕ)) (woken touched : List Bool) → GoesOn tree leaves waiting woken touched → length waiting ≡ leaf_count tree
waiting-counted tree leaves waiting woken touched on =
    ap length on.queue ∙ length-map leaves.states leaf_next ∙ leaves-counted tree leaves.states on.fits

-- inputs, paths and watchers are those of the run
pub run-of : (tree : Tree) (t : ℕ) (states : List LeafState) (events : List Event) (routes : Flat) (watching : Watching) (due moving : ℕ) (inputs : List (ℕ × Value))
    → IsFrameOf tree routes watching events due moving → inputs ≡ inputs_at t events
    → IsRunOf tree t (standing_at states events) states inputs (paths_of routes) (watches_by watching)
run-of tree t states events routes watching due moving inputs frame is =
    record {
      states_are = refl;
      inputs_are = is;
      at_inputs = frame.at_inputs;
      distinct = frame.routes_are.distinct;
      paths_are = frame.routes_are.paths_are;
      watch = frame.watching_is.watches;
    }

-- ---- after

-- without memory all events are left
pub frame-kept : (tree : Tree) (routes : Flat) (watching : Watching) (events left : List Event) (due moving due' : ℕ)
    → IsFrameOf tree routes watching events due moving → left ≡ events → due' ≡ due → IsFrameOf tree routes watching left due' moving
frame-kept tree routes watching events left due moving due' frame left_is due_is =
    record {
      routes_are = frame.routes_are;
      watching_is = frame.watching_is;
      at_inputs = subst (λ (es : List Event). AreAtInputs (ins_of tree) es) (sym left_is) frame.at_inputs;
      due_room = omega (arith, frame.due_room, due_is);
      moving_room = frame.moving_room;
    }

-- each event that is left is at an input that there is, and the lists keep their room
pub frame-left : (tree : Tree) (routes : Flat) (watching : Watching) (t : ℕ) (events left : List Event) (due moving due' moving' : ℕ)
    → IsFrameOf tree routes watching events due moving → left ≡ later t events → due' ≡ due → moving' ≡ moving → IsFrameOf tree routes watching left due' moving'
frame-left tree routes watching t events left due moving due' moving' frame left_is due_is moving_is =
    let among = all-left (λ (e : Event). e.port < length (ins_of tree)) (λ (e : Event). not (e.time == t)) events frame.at_inputs in
    record {
      routes_are = frame.routes_are;
      watching_is = frame.watching_is;
      at_inputs = subst (λ (es : List Event). AreAtInputs (ins_of tree) es) (sym left_is) among;
      due_room = omega (arith, frame.due_room, due_is);
      moving_room = omega (arith, frame.moving_room, moving_is);
    }

-- the states fit the model
pub ran-fits : NextIsSparse → CycleFits → (tree : Tree) (t : ℕ) (s : RunState) (states : List LeafState) (waiting : List (Option ℕ)) (left : List Event) (records : Records)
    → FitsTree tree s.leaf_states → next_instant s ≡ Some t → RanTo t (cycle_parts tree t s) s.events states waiting left records → FitsTree tree states
ran-fits sparse fit tree t s states waiting left records fits next ran =
    let p = cycle_parts tree t s in
    let limit = suc (cycles_at t s) in
    let is : next_cycle tree t limit s ≡ cycled (cycle_of_parts t p) (state_of_parts t s p) =
    next-by-parts sparse tree t limit s t fits next (omega arith) (omega arith)
    ∙ ap (λ o. unless_stop t o (cycle_of_parts t p) (state_of_parts t s p)) ran.none
    in
    subst (λ ss. FitsTree tree ss) (sym ran.states_are) (fit tree t limit s (state_of_parts t s p) (cycle_of_parts t p) fits is).1

pub counted : (a b v m q : ℕ) → a ≤ b + v + m → v + m ≤ q → a ≤ b + q
counted a b v m q le most = omega (arith, le, most)

adds : (v g m q : ℕ) → v ≡ g → m ≤ q → v + m ≤ g + q
adds v g m q e le = omega (arith, e, le)

-- no more visits than the values and the moves take
pub visits-within : (tree : Tree) (t : ℕ) (s : RunState) (leaves : Seated) (moving : List ℕ)
    → ((l : ℕ) → visits_at leaves l ≤ most_offsets (groups tree) + 2) → length moving ≤ length (cycle_parts tree t s).touched
    → value_count (due_give t s.leaf_states) + sum_by (visits_at leaves) moving ≤ visits_in tree (cycle_parts tree t s)
visits-within tree t s leaves moving short few =
    let p = cycle_parts tree t s in
    let most = most_offsets (groups tree) + 2 in
    adds (length (y_of p.given) + length (n_of p.given)) (length p.given) (sum_by (visits_at leaves) moving) (length p.touched * most)
    (parted p.given) (moves-cost (visits_at leaves) most moving p.touched short few)
