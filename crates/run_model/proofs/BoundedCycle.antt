-- The values of a cycle are bounded where those of the state before it are.
use Rattle.std.proofs.Common.{ℕ, zero, suc, ◌+◌, ◌/◌, ◌%◌, ◌<◌, ◌≤◌, Bool, true, false, Option, Some, None, List, [], ◌∷◌, map, length, sym, subst, arith}
use Rattle.std.specs.Prelude.{Ok, Err, IfOk, IfSome, ⊤, if◌then◌else◌, not, ◌==◌, ◌&&◌, ℤ, slice_get, unwrap_or, replicate}
use Rattle.std.specs.List.{All, filter, flat_map, enumerate_from, range_with_len, position}
use Rattle.std.specs.Str.{bytes_eq}
use Rattle.std.proofs.lemmas.List.{length-map}
use Rattle.std.proofs.lemmas.List.Elements.{All-nil, All-cons, All-head, All-tail, All-append, All-filter}
use Rattle.std.proofs.Math.Nat.{mod-le, div-le_self}
use Rattle.quantity.specs.declared.place.Offset.{Offset}
use Rattle.quantity.specs.declared.value.Value.{Value}
use Rattle.quantity.specs.declared.value.Value.TheVariants.{Undefined}
use Rattle.quantity.specs.Roots.{IsBounded}
use Rattle.rule_tree.specs.Meaning.{coordinates}
use Rattle.cell_grid.specs.Space.{Space, place_of, plane_count, cell_count}
use Rattle.atomic_face.specs.declared.class.PortNo.{PortNo}
use Rattle.atomic_face.specs.Held.{Held}
use Rattle.atomic_face.specs.Classes.{Bag, is_at, moved_state}
use Rattle.atomic_face.specs.Moves.{next_of_box, output_of_box}
use Rattle.model_tree.specs.Tree.{Word, Group, Tree, Trees, coupled, cells, atomic, nil, cons, Leaf, atomic_leaf, cell_leaf, leaf_count, leaves_from, all_leaves_from, leaves, ins_of}
use Rattle.model_tree.specs.Pull.{Source, leaf_source, top_source, arrivals_by_leaf, sources, top_pulled, top_sources}
use Rattle.model_tree.specs.Natural.{given_from}
use Rattle.model_tree.proofs.Naturality.{pulls_from_sources, top_pulls_from_sources}
use Rattle.run_model.specs.CellStep.{PortState, Stepped, cell_emitted, cell_moved}
use Rattle.run_model.specs.Cycle.{LeafState, box_state, cell_state, initial_leaf, leaf_next, leaf_emitted, collected_of, output_bags, at_out, given_by_leaf, at_port, bag_of, bags, emitted_values, seen_of, neighbour_leaf, sight_of, Moved, stayed, moved, stopped, box_moved, cell_result, leaf_moved}
use Rattle.run_model.specs.Run.{Event, RunState, port_records, records_of_bags, is_of_out, computed_of, record_of_move, state_record, out_records, event_at, events_at, at_top, cycle_of, state_after}
use Rattle.run_model.specs.Runs.{ends, goes}
use Rattle.quantity.specs.TimeBounds.{IsDelay, IsTime}
use Rattle.run_model.specs.Bounds.{IsBoundedGroup, AreBoundedSettings, HasBoundedValues, HaveBoundedValues, IsBoundedEvent, IsBoundedPort, IsBoundedCell, IsBoundedBox, IsBoundedLeaf, IsBoundedState, IsBoundedPortRecord, IsBoundedStateRecord, IsBoundedOutRecord, IsBoundedCycle, StartIsBounded, RunsAreBounded}
use Rattle.run_model.proofs.Steps.{moves_at, is_cycled}
use Rattle.run_model.proofs.LeavesKeep.{MovedHas, all_after-keeps, all_asked-keeps}
use Rattle.run_model.proofs.BoundedLists.{flat_map-each, filter_map-each, enumerated-each, map-each}
use Rattle.run_model.proofs.BoundedMeaning.{IsBoundedSight, at_or}
use Rattle.run_model.proofs.BoundedCells.{IsBoundedInput, cell_emitted-bounded, cell_output-bounded, cell_moved-bounded, initial_cell-bounded, next-bounded}
use Rattle.run_model.proofs.BoxLaws.{box_moved-bounded, output-bounded, box_next-bounded, initial-bounded}

-- ---- the leaves of a bounded model

abbrev IsBoundedLeafOf : Leaf → Type 0
IsBoundedLeafOf (atomic_leaf name class settings) = AreBoundedSettings class settings
IsBoundedLeafOf (cell_leaf g first cell) = IsBoundedGroup g × (cell < cell_count g.space)

numbers-below : (a n most : ℕ) → a + n ≤ most → All (λ k. k < most) (range_with_len a n)
numbers-below a zero most le = All-nil (λ k. k < most)
numbers-below a (suc n) most le =
    All-cons (λ k. k < most) a (range_with_len (a + 1) n) (omega (arith, le)) (numbers-below (a + 1) n most (omega (arith, le)))

cells-below : (n : ℕ) → All (λ k. k < n) (range_with_len 0 n)
cells-below n = numbers-below 0 n n (omega arith)

mutual
  leaves-bounded : (t : Tree) (first : ℕ) → HasBoundedValues t → All IsBoundedLeafOf (leaves_from t first)
  leaves-bounded (coupled name ins outs children links) first h = all_leaves-bounded children first h
  leaves-bounded (cells g) first h =
      map-each IsBoundedLeafOf (cell_leaf g first) (λ k. k < cell_count g.space) (λ k lt. (h, lt)) (range_with_len 0 (cell_count g.space)) (cells-below (cell_count g.space))
  leaves-bounded (atomic name class settings) first h = All-cons IsBoundedLeafOf (atomic_leaf name class settings) [] h (All-nil IsBoundedLeafOf)

  all_leaves-bounded : (ts : Trees) (first : ℕ) → HaveBoundedValues ts → All IsBoundedLeafOf (all_leaves_from ts first)
  all_leaves-bounded nil first h = All-nil IsBoundedLeafOf
  all_leaves-bounded (cons t ts) first h =
      All-append IsBoundedLeafOf (leaves_from t first) (all_leaves_from ts (first + leaf_count t)) (leaves-bounded t first h.0) (all_leaves-bounded ts (first + leaf_count t) h.1)

-- ---- what is given, and where it arrives

abbrev AreBounded : List Value → Type 0
AreBounded vs = All IsBounded vs

abbrev IsBoundedBag : Bag → Type 0
IsBoundedBag bag = All IsBoundedInput bag

collected_of-bounded : (t : ℕ) (s : LeafState) → IsBoundedLeaf s → IsBoundedBag (collected_of t s)
collected_of-bounded t (box_state b) h = due (is_at t (next_of_box b))
  where
    due : (c : Bool) → IsBoundedBag (if c then output_of_box b else [])
    due true = output-bounded b.kind b.settings b.state h.0 h.1
    due false = All-nil IsBoundedInput
collected_of-bounded t (cell_state c) h = cell_output-bounded t c h

collected-bounded : (t : ℕ) (ss : List LeafState) → All IsBoundedLeaf ss → All IsBoundedBag (output_bags t ss)
collected-bounded t ss h = map-each IsBoundedBag (collected_of t) IsBoundedLeaf (collected_of-bounded t) ss h

at_out-bounded : (bag : Bag) → IsBoundedBag bag → AreBounded (at_out bag)
at_out-bounded bag h =
    map-each IsBounded (λ (o : PortNo × Value). o.1) IsBoundedInput (λ o k. k) (filter (λ (o : PortNo × Value). o.0.0 == 0) bag)
    (All-filter (λ (o : PortNo × Value). o.0.0 == 0) IsBoundedInput bag h)

given-bounded : (gave : List Bag) → All IsBoundedBag gave → (leaf : ℕ) → AreBounded (given_by_leaf gave leaf)
given-bounded gave h leaf = at_out-bounded (unwrap_or (slice_get gave leaf) []) (at_or IsBoundedBag gave leaf [] (All-nil IsBoundedInput) h)

from-bounded : (give : ℕ → List Value) (top : Word → List Value) → ((n : ℕ) → AreBounded (give n)) → ((p : Word) → AreBounded (top p)) → (s : Source) → AreBounded (given_from give top s)
from-bounded give top g t (leaf_source n) = g n
from-bounded give top g t (top_source p) = t p

all_from-bounded : (give : ℕ → List Value) (top : Word → List Value) → ((n : ℕ) → AreBounded (give n)) → ((p : Word) → AreBounded (top p)) → (ss : List Source) → AreBounded (flat_map (given_from give top) ss)
all_from-bounded give top g t ss = flat_map-each IsBounded (given_from give top) (λ s. ⊤) (λ s k. from-bounded give top g t s) ss (λ k d lt. tt)

pulled-bounded : (tree : Tree) (give : ℕ → List Value) (top : Word → List Value) → ((n : ℕ) → AreBounded (give n)) → ((p : Word) → AreBounded (top p)) → All (All AreBounded) (arrivals_by_leaf tree give top)
pulled-bounded tree give top g t =
    subst (All (All AreBounded)) (sym (pulls_from_sources Value tree give top))
    (map-each (All AreBounded) (map (flat_map (given_from give top))) (λ ports. ⊤)
    (λ ports k. map-each AreBounded (flat_map (given_from give top)) (λ ss. ⊤) (λ ss l. all_from-bounded give top g t ss) ports (λ k d lt. tt))
    (sources tree) (λ k d lt. tt))

top_pulled-bounded : (tree : Tree) (give : ℕ → List Value) → ((n : ℕ) → AreBounded (give n)) → All AreBounded (top_pulled tree give)
top_pulled-bounded tree give g =
    subst (All AreBounded) (sym (top_pulls_from_sources Value tree give (λ p. [])))
    (map-each AreBounded (flat_map (given_from give (λ p. []))) (λ ss. ⊤) (λ ss k. all_from-bounded give (λ p. []) g (λ p. All-nil IsBounded) ss) (top_sources tree) (λ k d lt. tt))

bag_of-bounded : (ports : List (List Value)) → All AreBounded ports → IsBoundedBag (bag_of ports)
bag_of-bounded ports h =
    flat_map-each IsBoundedInput at_port (λ (p : ℕ × List Value). AreBounded p.1)
    (λ p k. map-each IsBoundedInput (λ v. (record { 0 = p.0 }, v)) IsBounded (λ v l. l) p.1 k)
    (enumerate_from 0 ports) (enumerated-each AreBounded 0 ports h)

bags-bounded : (tree : Tree) (gave : List Bag) (top : Word → List Value) → All IsBoundedBag gave → ((p : Word) → AreBounded (top p)) → All IsBoundedBag (bags tree gave top)
bags-bounded tree gave top h t =
    map-each IsBoundedBag bag_of (All AreBounded) bag_of-bounded (arrivals_by_leaf tree (given_by_leaf gave) top) (pulled-bounded tree (given_by_leaf gave) top (given-bounded gave h) t)

event_at-bounded : (t port : ℕ) (e : Event) → IsBoundedEvent e → IfSome (event_at t port e) IsBounded
event_at-bounded t port e h = test ((e.time == t) && (e.port == port))
  where
    test : (b : Bool) → IfSome (if b then Some e.value else None) IsBounded
    test true = h
    test false = tt

at_top-bounded : (tree : Tree) (t : ℕ) (es : List Event) → All IsBoundedEvent es → (name : Word) → AreBounded (at_top tree t es name)
at_top-bounded tree t es h name = found (position (λ p. bytes_eq p name) (ins_of tree))
  where
    found : (o : Option ℕ) → AreBounded (events_at t es o)
    found None = All-nil IsBounded
    found (Some port) = filter_map-each IsBounded (event_at t port) IsBoundedEvent (event_at-bounded t port) es h

-- ---- what a cell sees

emitted_values-bounded : (o : Option LeafState) → IfSome o IsBoundedLeaf → AreBounded (emitted_values o)
emitted_values-bounded None h = All-nil IsBounded
emitted_values-bounded (Some (box_state b)) h = All-nil IsBounded
emitted_values-bounded (Some (cell_state c)) h = map-each IsBounded (λ (p : PortState). p.emitted) IsBoundedPort (λ p k. k.emitted) c.ports h.ports

get-bounded : (P : LeafState → Type 0) (ss : List LeafState) (k : ℕ) → All P ss → IfSome (slice_get ss k) P
get-bounded P [] k h = tt
get-bounded P (s ∷ ss) zero h = All-head P s ss h
get-bounded P (s ∷ ss) (suc k) h = get-bounded P ss k (All-tail P s ss h)

undefined-bounded : (n : ℕ) → AreBounded (replicate n Undefined)
undefined-bounded zero = All-nil IsBounded
undefined-bounded (suc n) = All-cons IsBounded Undefined (replicate n Undefined) tt (undefined-bounded n)

seen_of-bounded : (ss : List LeafState) (g : Group) (o : Option ℕ) → All IsBoundedLeaf ss → AreBounded (seen_of ss g o)
seen_of-bounded ss g None h = undefined-bounded (suc (length g.port_values))
seen_of-bounded ss g (Some leaf) h = emitted_values-bounded (slice_get ss leaf) (get-bounded IsBoundedLeaf ss leaf h)

place-bounded : (s : Space) (cell most : ℕ) → cell ≤ most → All (λ n. n ≤ most) (coordinates (place_of s cell))
place-bounded s cell most le =
    let row = div-le_self (cell / plane_count s) s.columns in
    let plane = div-le_self cell (plane_count s) in
    let column = mod-le (cell / plane_count s) s.columns in
    let rest = mod-le cell (plane_count s) in
    All-cons (λ n. n ≤ most) (cell / plane_count s / s.columns) (cell / plane_count s % s.columns ∷ cell % plane_count s ∷ []) (omega (arith, row, plane, le))
    (All-cons (λ n. n ≤ most) (cell / plane_count s % s.columns) (cell % plane_count s ∷ []) (omega (arith, column, plane, le))
    (All-cons (λ n. n ≤ most) (cell % plane_count s) [] (omega (arith, rest, le)) (All-nil (λ n. n ≤ most))))

sight-bounded : (t : ℕ) (ss : List LeafState) (g : Group) (first cell : ℕ) → IsDelay t → All IsBoundedLeaf ss → IsBoundedGroup g → cell < cell_count g.space → IsBoundedSight (sight_of t ss g first cell)
sight-bounded t ss g first cell time h group lt = record {
  time = time;
  place = λ k. at_or (λ n. n ≤ 1048576) (coordinates (place_of g.space cell)) k 0 (omega arith) (place-bounded g.space cell 1048576 (omega (arith, lt, group.size)));
  neighbours = map-each AreBounded (λ o. seen_of ss g (neighbour_leaf g first cell o)) (λ (o : Offset). ⊤) (λ o k. seen_of-bounded ss g (neighbour_leaf g first cell o) h) g.offsets (λ k d l. tt);
  few = omega (arith, length-map g.offsets (λ o. seen_of ss g (neighbour_leaf g first cell o)), group.offsets);
  port = tt;
  variables = All-nil IsBounded;
}

-- ---- a leaf that moves

leaf_emitted-bounded : (t : ℕ) (s : LeafState) → IsBoundedLeaf s → IsBoundedLeaf (leaf_emitted t s)
leaf_emitted-bounded t (box_state b) h = h
leaf_emitted-bounded t (cell_state c) h = cell_emitted-bounded t c h

box_moved-has : (b : Held) (o : Option (List ℤ)) → AreBoundedSettings b.kind b.settings → IfSome o (IsBoundedBox b.kind) → MovedHas IsBoundedLeaf (box_moved b o)
box_moved-has b None set h = tt
box_moved-has b (Some s) set h = (set, h)

cell_result-has : (r : Stepped) → IfOk r IsBoundedCell → MovedHas IsBoundedLeaf (cell_result r)
cell_result-has (Ok c) h = h
cell_result-has (Err stop) h = tt

leaf_moved-bounded : (t : ℕ) (emitted : List LeafState) → IsDelay t → All IsBoundedLeaf emitted → (woken : Bool) (bag : Bag) (l : Leaf) (s : LeafState) → IsBoundedLeafOf l → IsBoundedBag bag → IsBoundedLeaf s → MovedHas IsBoundedLeaf (leaf_moved t emitted woken bag l s)
leaf_moved-bounded t emitted time all woken bag l (box_state b) leaf good h =
    box_moved-has b (moved_state b.kind b.settings b.state t bag) h.0 (box_moved-bounded b.kind b.settings b.state t bag h.0 time good h.1)
leaf_moved-bounded t emitted time all woken bag (atomic_leaf name class settings) (cell_state c) leaf good h = tt
leaf_moved-bounded t emitted time all woken bag (cell_leaf g first cell) (cell_state c) leaf good h =
    cell_result-has (cell_moved g cell t woken (sight_of t emitted g first cell) bag (cell_emitted t c))
    (cell_moved-bounded g cell t woken (sight_of t emitted g first cell) bag (cell_emitted t c) leaf.0 time (sight-bounded t emitted g first cell time all leaf.0 leaf.1) good (cell_emitted-bounded t c h))

moves-bounded : (tree : Tree) (t : ℕ) (s : RunState) → HasBoundedValues tree → IsDelay t → IsBoundedState s → All (MovedHas IsBoundedLeaf) (moves_at tree t s)
moves-bounded tree t s model time h =
    let emitted = map (leaf_emitted t) s.leaf_states in
    let gave = output_bags t s.leaf_states in
    let all = map-each IsBoundedLeaf (leaf_emitted t) IsBoundedLeaf (leaf_emitted-bounded t) s.leaf_states h.leaves in
    all_asked-keeps t emitted gave IsBoundedLeaf IsBoundedLeafOf IsBoundedBag (leaf_moved-bounded t emitted time all)
    (leaves tree) s.leaf_states (bags tree gave (at_top tree t s.events)) (leaves-bounded tree 0 model)
    (bags-bounded tree gave (at_top tree t s.events) (collected-bounded t s.leaf_states h.leaves) (at_top-bounded tree t s.events h.events)) h.leaves

-- ---- records

records-bounded : (bags : List Bag) → All IsBoundedBag bags → All IsBoundedPortRecord (records_of_bags bags)
records-bounded bags h =
    flat_map-each IsBoundedPortRecord port_records (λ (b : ℕ × Bag). IsBoundedBag b.1)
    (λ b k. map-each IsBoundedPortRecord (λ (o : PortNo × Value). record { leaf = b.0; port = o.0.0; value = o.1 }) IsBoundedInput (λ o l. l) b.1 k)
    (enumerate_from 0 bags) (enumerated-each IsBoundedBag 0 bags h)

computed-bounded : (s : LeafState) → IsBoundedLeaf s → IfSome (computed_of s) IsBounded
computed-bounded (box_state b) h = tt
computed-bounded (cell_state c) h = first c.ports h.ports
  where
    first : (ps : List PortState) → All IsBoundedPort ps → IfSome (computed_of (cell_state (record { ports = ps; variables = c.variables }))) IsBounded
    first [] k = tt
    first (p ∷ ps) k = (All-head IsBoundedPort p ps k).computed

leaf_next-bounded : (s : LeafState) → IsBoundedLeaf s → IfSome (leaf_next s) IsTime
leaf_next-bounded (box_state b) h = box_next-bounded b.kind b.state h.1
leaf_next-bounded (cell_state c) h = next-bounded c.ports h.ports

state_record-bounded : (leaf : ℕ) (m : Moved) → MovedHas IsBoundedLeaf m → IfSome (record_of_move leaf m) IsBoundedStateRecord
state_record-bounded leaf stayed h = tt
state_record-bounded leaf (moved s) h = (computed-bounded s h, leaf_next-bounded s h)
state_record-bounded leaf (stopped stop) h = tt

outs-bounded : (ports : List (List Value)) → All AreBounded ports → All IsBoundedOutRecord (flat_map out_records (enumerate_from 0 ports))
outs-bounded ports h =
    flat_map-each IsBoundedOutRecord out_records (λ (p : ℕ × List Value). AreBounded p.1)
    (λ p k. map-each IsBoundedOutRecord (λ v. record { port = p.0; value = v }) IsBounded (λ v l. l) p.1 k)
    (enumerate_from 0 ports) (enumerated-each AreBounded 0 ports h)

cycle-bounded : (tree : Tree) (end t : ℕ) (s : RunState) → HasBoundedValues tree → IsDelay t → t ≤ end → IsBoundedState s → IsBoundedCycle end (cycle_of tree t (output_bags t s.leaf_states) (at_top tree t s.events) (moves_at tree t s))
cycle-bounded tree end t s model time within h =
    let gave = output_bags t s.leaf_states in
    let top = at_top tree t s.events in
    let given = collected-bounded t s.leaf_states h.leaves in
    let records = records-bounded gave given in
    record {
      time = within;
      y = All-filter is_of_out IsBoundedPortRecord (records_of_bags gave) records;
      n = All-filter (λ r. not (is_of_out r)) IsBoundedPortRecord (records_of_bags gave) records;
      x = records-bounded (bags tree gave top) (bags-bounded tree gave top given (at_top-bounded tree t s.events h.events));
      s = filter_map-each IsBoundedStateRecord state_record (λ (m : ℕ × Moved). MovedHas IsBoundedLeaf m.1) (λ m k. state_record-bounded m.0 m.1 k) (enumerate_from 0 (moves_at tree t s)) (enumerated-each (MovedHas IsBoundedLeaf) 0 (moves_at tree t s) (moves-bounded tree t s model time h));
      out = outs-bounded (top_pulled tree (given_by_leaf gave)) (top_pulled-bounded tree (given_by_leaf gave) (given-bounded gave given));
    }

after-bounded : (tree : Tree) (t : ℕ) (s : RunState) → HasBoundedValues tree → IsDelay t → IsBoundedState s → IsBoundedState (state_after t s (moves_at tree t s))
after-bounded tree t s model time h = record {
  leaves = all_after-keeps IsBoundedLeaf s.leaf_states (moves_at tree t s) h.leaves (moves-bounded tree t s model time h);
  events = All-filter (λ (e : Event). not (e.time == t)) IsBoundedEvent s.events h.events;
}

-- ---- runs

pub runs-bounded : RunsAreBounded
runs-bounded tree end limit s l _ v model time h (ends e) = (All-nil (IsBoundedCycle end), h)
runs-bounded tree end limit s l _ v model time h (goes {n} {c} {cs} e q) =
    let is = is_cycled tree end limit s n c e in
    let within : is.0 ≤ end = is.1.within in
    let at : IsDelay is.0 = omega (arith, within, time) in
    let one = subst (IsBoundedCycle end) (sym is.1.cycle) (cycle-bounded tree end is.0 s model at within h) in
    let next = subst IsBoundedState (sym is.1.next) (after-bounded tree is.0 s model at h) in
    let rest = runs-bounded tree end limit n l cs v model time next q in
    (All-cons (IsBoundedCycle end) c cs one rest.0, rest.1)

initial_leaf-bounded : (l : Leaf) → IsBoundedLeafOf l → IsBoundedLeaf (initial_leaf l)
initial_leaf-bounded (atomic_leaf name class settings) h = (h, initial-bounded class settings h)
initial_leaf-bounded (cell_leaf g first cell) h =
    initial_cell-bounded g (unwrap_or (slice_get g.initial cell) Undefined) h.0 (at_or IsBounded g.initial cell Undefined tt h.0.initial)

pub start-bounded : StartIsBounded
start-bounded tree events model good = record {
  leaves = map-each IsBoundedLeaf initial_leaf IsBoundedLeafOf initial_leaf-bounded (leaves tree) (leaves-bounded tree 0 model);
  events = good;
}
