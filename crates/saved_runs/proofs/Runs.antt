-- Over a run the boxes of a model stay in states of their classes.
use Rattle.std.proofs.Common.{◌≡◌, ℕ, ◌+◌, Bool, true, false, Option, Some, None, List, [], ◌∷◌}
use Rattle.std.proofs.Common.{◌++◌, map, get_or, sym, subst, arith}
use Rattle.std.specs.Prelude.{⊤, if◌then◌else◌, ◌||◌, IfSome, Ok, Err, ℤ}
use Rattle.std.specs.List.{All, flat_map, enumerate_from}
use Rattle.std.proofs.lemmas.List.Elements.{All-nil, All-cons, All-head, All-tail, All-map}
use Rattle.quantity.specs.declared.value.Value.{Value}
use Rattle.quantity.specs.Roots.{IsBounded}
use Rattle.quantity.specs.TimeBounds.{IsDelay}
use Rattle.atomic_face.specs.declared.class.PortNo.{PortNo}
use Rattle.atomic_face.specs.Held.{Held}
use Rattle.atomic_face.specs.Classes.{Bag, is_at, moved_state}
use Rattle.atomic_face.specs.BoxStates.{is_box_state}
use Rattle.model_tree.specs.Tree.{Tree, Leaf, atomic_leaf, cell_leaf, leaves}
use Rattle.run_model.specs.CellStep.{Stepped, cell_emitted, cell_moved}
use Rattle.run_model.specs.Cycle.{LeafState, box_state, cell_state, initial_leaf, leaf_next}
use Rattle.run_model.specs.Cycle.{leaf_emitted, output_bags, bags, sight_of, is_woken, has_values}
use Rattle.run_model.specs.Cycle.{Moved, stayed, moved, stopped, box_moved, cell_result, leaf_moved}
use Rattle.run_model.specs.Cycle.{move_in_cycle, all_asked, after, all_after}
use Rattle.run_model.specs.Run.{Cycle, RunState, Verdict, port_records, at_top}
use Rattle.run_model.specs.Runs.{Runs, ends, goes}
use Rattle.run_model.specs.Bounds.{IsBoundedPortRecord, IsBoundedCycle, RunsAreBounded}
use Rattle.run_model.proofs.Steps.{moves_at, is_cycled}
use Rattle.saved_runs.specs.Settled.{AreSettled, IsSettled, IsInState}
use Rattle.saved_runs.specs.Kept.{StartsAreStates, MovesKeepStates, StartIsInState, RunsKeepStates}

-- ---- what every leaf that moves keeps, all leaves keep

abbrev MovedHas : (LeafState → Type 0) → Moved → Type 0
MovedHas P stayed = ⊤
MovedHas P (moved s) = P s
MovedHas P (stopped why) = ⊤

after-keeps : (P : LeafState → Type 0) (s : LeafState) (m : Moved) → P s → MovedHas P m
    → P (after s m)
after-keeps P s stayed h k = h
after-keeps P s (moved n) h k = k
after-keeps P s (stopped why) h k = h

all_after-keeps : (P : LeafState → Type 0) (ss : List LeafState) (ms : List Moved) → All P ss
    → All (MovedHas P) ms → All P (all_after ss ms)
all_after-keeps P [] ms h k = All-nil P
all_after-keeps P (s ∷ ss) [] h k = All-nil P
all_after-keeps P (s ∷ ss) (m ∷ ms) h k =
    All-cons P (after s m) (all_after ss ms) (after-keeps P s m (All-head P s ss h)
    (All-head (MovedHas P) m ms k))
    (all_after-keeps P ss ms (All-tail P s ss h) (All-tail (MovedHas P) m ms k))

module _ (t : ℕ) (emitted : List LeafState) (gave : List Bag) (P : LeafState → Type 0) (B : Bag
    → Type 0) (keeps : (woken : Bool) (bag : Bag) (l : Leaf) (s : LeafState) → B bag → P s
    → MovedHas P (leaf_moved t emitted woken bag l s)) where
  asked-keeps : (l : Leaf) (s : LeafState) (bag : Bag) → B bag → P s
      → MovedHas P (move_in_cycle t emitted gave l s bag)
  asked-keeps l s bag good h = moves (is_at t (leaf_next s) || is_woken gave l || has_values bag)
    where
      moves : (b : Bool) → MovedHas P (if b then leaf_moved t emitted (is_woken gave l) bag l s
          else stayed)
      moves true = keeps (is_woken gave l) bag l s good h
      moves false = tt

  all_asked-keeps : (ls : List Leaf) (ss : List LeafState) (bags : List Bag) → All B bags → All P ss
      → All (MovedHas P) (all_asked t emitted gave ls ss bags)
  all_asked-keeps [] ss bags good h = All-nil (MovedHas P)
  all_asked-keeps (l ∷ ls) [] bags good h = All-nil (MovedHas P)
  all_asked-keeps (l ∷ ls) (s ∷ ss) [] good h = All-nil (MovedHas P)
  all_asked-keeps (l ∷ ls) (s ∷ ss) (b ∷ bs) good h =
      All-cons (MovedHas P) (move_in_cycle t emitted gave l s b) (all_asked t emitted gave ls ss bs)
      (asked-keeps l s b (All-head B b bs good) (All-head P s ss h))
      (all_asked-keeps ls ss bs (All-tail B b bs good) (All-tail P s ss h))

-- ---- the bags of a cycle are bounded where its records are

abbrev IsInput : PortNo × Value → Type 0
IsInput i = IsBounded i.1

abbrev IsBoundedBag : Bag → Type 0
IsBoundedBag bag = All IsInput bag

split : {X : Type 0} (P : X → Type 0) (xs ys : List X) → All P (xs ++ ys) → All P xs × All P ys
split P [] ys h = (All-nil P, h)
split P (x ∷ xs) ys h =
    let p = split P xs ys (All-tail P x (xs ++ ys) h) in
    (All-cons P x xs (All-head P x (xs ++ ys) h) p.0, p.1)

bag-is : (leaf : ℕ) (bag : Bag) → All IsBoundedPortRecord (port_records (leaf, bag))
    → IsBoundedBag bag
bag-is leaf [] h = All-nil IsInput
bag-is leaf (o ∷ os) h =
    All-cons IsInput o os (All-head IsBoundedPortRecord (record {
      leaf = leaf;
      port = o.0.0;
      value =
          o.1;
    }) (port_records (leaf, os)) h)
    (bag-is leaf os (All-tail IsBoundedPortRecord (record {
      leaf = leaf;
      port = o.0.0;
      value =
          o.1;
    }) (port_records (leaf, os)) h))

bags-are : (n : ℕ) (bs : List Bag)
    → All IsBoundedPortRecord (flat_map port_records (enumerate_from n bs)) → All IsBoundedBag bs
bags-are n [] h = All-nil IsBoundedBag
bags-are n (b ∷ bs) h =
    let p = split IsBoundedPortRecord (port_records (n, b))
    (flat_map port_records (enumerate_from (n + 1) bs)) h in
    All-cons IsBoundedBag b bs (bag-is n b p.0) (bags-are (n + 1) bs p.1)

-- ---- a leaf that moves

box-has : (b : Held) (o : Option (List ℤ)) → AreSettled b.kind b.settings
    → IfSome o (λ words. is_box_state b.kind b.settings words ≡ true)
    → MovedHas IsInState (box_moved b o)
box-has b None set h = tt
box-has b (Some words) set h = (set, h)

cell-has : (r : Stepped) → MovedHas IsInState (cell_result r)
cell-has (Ok c) = tt
cell-has (Err stop) = tt

leaf-keeps : MovesKeepStates → (t : ℕ) (emitted : List LeafState) → IsDelay t
    → (woken : Bool) (bag : Bag) (l : Leaf) (s : LeafState) → IsBoundedBag bag → IsInState s
    → MovedHas IsInState (leaf_moved t emitted woken bag l s)
leaf-keeps keeps t emitted time woken bag l (box_state b) good h =
    box-has b (moved_state b.kind b.settings b.state t bag) h.0 (keeps b.kind b.settings b.state t
    bag h.0 time good h.1)
leaf-keeps keeps t emitted time woken bag (atomic_leaf name class settings) (cell_state c) good h =
    tt
leaf-keeps keeps t emitted time woken bag (cell_leaf g first cell) (cell_state c) good h =
    cell-has (cell_moved g cell t woken (sight_of t emitted g first cell) bag (cell_emitted t c))

-- ---- runs

abbrev AllInState : RunState → Type 0
AllInState s = All IsInState s.leaf_states

kept : MovesKeepStates
    → (tree : Tree) (end limit : ℕ) (s l : RunState) (cs : List Cycle) (v : Verdict) → IsDelay end
    → All (IsBoundedCycle end) cs → AllInState s → Runs tree end limit s cs v l → AllInState l
kept keeps tree end limit s l _ v time all h (ends e) = h
kept keeps tree end limit s l _ v time all h (goes {n} {c} {cs} e q) =
    let is = is_cycled tree end limit s n c e in
    let t = is.0 in
    let gave = output_bags t s.leaf_states in
    let given = bags tree gave (at_top tree t s.events) in
    let early : IsDelay t = omega (arith, is.1.within, time) in
    let records = subst (λ (d : Cycle). All IsBoundedPortRecord d.x) is.1.cycle
    (All-head (IsBoundedCycle end) c cs all).x in
    let moves = all_asked-keeps t (map (leaf_emitted t) s.leaf_states) gave IsInState IsBoundedBag
    (leaf-keeps keeps t (map (leaf_emitted t) s.leaf_states) early) (leaves tree) s.leaf_states
    given (bags-are 0 given records) h in
    let next = subst AllInState (sym is.1.next) (all_after-keeps IsInState s.leaf_states
    (moves_at tree t s) h moves) in
    kept keeps tree end limit n l cs v time (All-tail (IsBoundedCycle end) c cs all) next q

pub runs-keep : MovesKeepStates → RunsAreBounded → RunsKeepStates
runs-keep keeps bounded tree end limit s l cs v model time small h q =
    kept keeps tree end limit s l cs v time (bounded tree end limit s l cs v model time small q).0 h
    q

-- ---- the start

leaf-starts : StartsAreStates → (l : Leaf) → IsSettled l → IsInState (initial_leaf l)
leaf-starts starts (atomic_leaf name class settings) h = (h, starts class settings h)
leaf-starts starts (cell_leaf g first cell) h = tt

pub start-is : StartsAreStates → StartIsInState
start-is starts tree events h =
    All-map IsInState initial_leaf (leaves tree)
    (λ k d lt. leaf-starts starts (get_or (leaves tree) k d) (h k d lt))
