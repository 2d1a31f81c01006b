-- A cycle keeps the states fitting, and its records name what there is.
use Rattle.std.proofs.Common.{◌≡◌, ℕ, suc, ◌+◌, ◌<◌, ◌≤◌, Bool, true, false, Option, Some, None, List, [], ◌∷◌, map, length, get_or, refl, sym, ap, subst, arith}
use Rattle.std.specs.Prelude.{Ok, Err, IfOk, IfSome, IsSome, IsSomeAnd, ⊤, if◌then◌else◌, not, ◌==◌, ◌||◌, ℤ, slice_get, unwrap_or}
use Rattle.std.specs.List.{All, AllZip, filter, enumerate_from, range_with_len}
use Rattle.std.specs.Option.{option_map}
use Rattle.std.proofs.lemmas.List.{length-map}
use Rattle.std.proofs.lemmas.List.Elements.{All-nil, All-cons, All-filter, filter_passes}
use Rattle.std.proofs.lemmas.Bool.Decides.{nat_tests}
use Rattle.quantity.specs.declared.value.Value.{Value}
use Rattle.quantity.specs.declared.value.Value.TheVariants.{Undefined}
use Rattle.cell_grid.specs.Space.{cell_count}
use Rattle.atomic_face.specs.declared.class.PortNo.{PortNo}
use Rattle.atomic_face.specs.Classes.{Bag, is_at, moved_state}
use Rattle.atomic_face.specs.Moves.{next_of_box, output_of_box}
use Rattle.model_tree.specs.Tree.{Word, Tree, Trees, coupled, cells, atomic, nil, cons, Leaf, atomic_leaf, cell_leaf, name_of, leaf_count, leaves_from, all_leaves_from, leaves, outs_of}
use Rattle.model_tree.specs.Pull.{class_ports, cell_ports, is_child, is_cell, what_links_bring, nothing, given_by, given_out, taken_in, all_taken_in, arrivals_by_leaf, top_pulled}
use Rattle.run_model.specs.CellStep.{PortState, Stepped, initial_port, first_time, port_emitted, port_output, cell_emitted, cell_moved}
use Rattle.run_model.specs.Cycle.{LeafState, box_state, cell_state, initial_leaf, leaf_next, leaf_emitted, collected_of, output_bags, given_by_leaf, at_port, bag_of, bags, sight_of, is_woken, has_values, Moved, stayed, moved, stopped, box_moved, cell_result, leaf_moved, move_in_cycle, all_asked, after, all_after}
use Rattle.run_model.specs.Run.{PortRecord, StateRecord, OutRecord, RunState, port_records, records_of_bags, is_of_out, computed_of, record_of_move, state_record, out_records, at_top, cycle_of}
use Rattle.run_model.specs.Runs.{ends, goes}
use Rattle.run_model.specs.Fitting.{Fits, FitsTree, IsFurtherPort, IsInPort, IsStateValue, OfLeaf, NamesItsParts, HasNumbers, StartFits, CycleFits, RunsFit}
use Rattle.run_model.proofs.Steps.{moves_at, is_cycled}
use Rattle.run_model.proofs.LeavesKeep.{MovedHas}
use Rattle.run_model.proofs.BoundedLists.{flat_map-each, filter_map-each, map-each}
use Rattle.run_model.proofs.FittingLists.{zip-append, zip-maps, zip-map, zip-from, numbered, numbers-below}
use Rattle.run_model.proofs.FittingCells.{cell_emitted-has, cell_moved-has}
use Rattle.run_model.proofs.ClassLaws.{AtOut}
use Rattle.run_model.proofs.BoxLaws.{output-at}

-- ---- what reaches a leaf stands at its ports

abbrev in_ports : Leaf → ℕ
in_ports (atomic_leaf name class settings) = length (class_ports class)
in_ports (cell_leaf g first cell) = length (cell_ports g cell)

abbrev HasPorts : Leaf → List (List Value) → Type 0
HasPorts l ports = length ports ≡ in_ports l

mutual
  taken-fits : (t : Tree) (first n : ℕ) (give : ℕ → List Value) (own : Word → List Value) → AllZip HasPorts (leaves_from t first) (taken_in t n give own)
  taken-fits (coupled name ins outs children links) first n give own =
      all_taken-fits children first n give (λ child port. what_links_bring links (is_child port child) own (given_by children n give) nothing)
  taken-fits (cells g) first n give own =
      zip-maps HasPorts (cell_leaf g first) (λ k. map (λ port. what_links_bring g.links (is_cell port k) own (λ p c. []) (λ m. give (n + m))) (cell_ports g k))
      (λ k. length-map (cell_ports g k) (λ port. what_links_bring g.links (is_cell port k) own (λ p c. []) (λ m. give (n + m)))) (range_with_len 0 (cell_count g.space))
  taken-fits (atomic name class settings) first n give own = (length-map (class_ports class) own, tt)

  all_taken-fits : (ts : Trees) (first n : ℕ) (give : ℕ → List Value) (own : Word → Word → List Value) → AllZip HasPorts (all_leaves_from ts first) (all_taken_in ts n give own)
  all_taken-fits nil first n give own = tt
  all_taken-fits (cons t ts) first n give own =
      zip-append HasPorts (leaves_from t first) (all_leaves_from ts (first + leaf_count t)) (taken_in t n give (own (name_of t))) (all_taken_in ts (n + leaf_count t) give own)
      (taken-fits t first n give (own (name_of t))) (all_taken-fits ts (first + leaf_count t) (n + leaf_count t) give own)

abbrev pub TakesAt : Leaf → Bag → Type 0
TakesAt l bag = All (λ (i : PortNo × Value). IsInPort l i.0.0) bag

in_port : (l : Leaf) (port : ℕ) → port < in_ports l → IsInPort l port
in_port (atomic_leaf name class settings) port h = h
in_port (cell_leaf g first cell) port h = h

bag-fits : (l : Leaf) (ports : List (List Value)) → HasPorts l ports → TakesAt l (bag_of ports)
bag-fits l ports h =
    flat_map-each (λ (i : PortNo × Value). IsInPort l i.0.0) at_port (λ (p : ℕ × List Value). p.0 < in_ports l)
    (λ p lt. map-each (λ (i : PortNo × Value). IsInPort l i.0.0) (λ v. (record { 0 = p.0 }, v)) (λ v. ⊤) (λ v t. in_port l p.0 lt) p.1 (λ k d q. tt))
    (enumerate_from 0 ports) (numbers-below ports 0 (in_ports l) (omega (arith, h)))

pub bags-fit : (tree : Tree) (gave : List Bag) (top : Word → List Value) → AllZip TakesAt (leaves tree) (bags tree gave top)
bags-fit tree gave top =
    zip-map HasPorts TakesAt bag_of bag-fits (leaves tree) (arrivals_by_leaf tree (given_by_leaf gave) top) (taken-fits tree 0 0 (given_by_leaf gave) top)

-- ---- what a leaf gives stands at its ports

abbrev IsOutPort : Leaf → ℕ → Type 0
IsOutPort (atomic_leaf name class settings) port = port ≡ 0
IsOutPort (cell_leaf g first cell) port = port ≤ length g.port_values

abbrev GivesAt : Leaf → Bag → Type 0
GivesAt l bag = All (λ (o : PortNo × Value). IsOutPort l o.0.0) bag

abbrev AtMost : ℕ → PortNo × Value → Type 0
AtMost most o = o.0.0 ≤ most

collected_of-fits : (t : ℕ) (l : Leaf) (s : LeafState) → Fits l s → GivesAt l (collected_of t s)
collected_of-fits t (atomic_leaf name class settings) (box_state b) h = due (is_at t (next_of_box b))
  where
    due : (c : Bool) → All AtOut (if c then output_of_box b else [])
    due true = output-at b.kind b.settings b.state
    due false = All-nil AtOut
collected_of-fits t (atomic_leaf name class settings) (cell_state c) h = absurd h
collected_of-fits t (cell_leaf g first cell) (box_state b) h = absurd h
collected_of-fits t (cell_leaf g first cell) (cell_state c) h =
    flat_map-each (AtMost (length g.port_values)) (port_output t) (λ (p : ℕ × PortState). p.0 < length c.ports) given (enumerate_from 0 c.ports) (numbers-below c.ports 0 (length c.ports) (omega arith))
  where
    given : (p : ℕ × PortState) → p.0 < length c.ports → All (AtMost (length g.port_values)) (port_output t p)
    given p lt = test (is_at t (first_time p.1.pairs))
      where
        test : (b : Bool) → All (AtMost (length g.port_values)) (if b then (record { 0 = p.0 }, (port_emitted t p.1).emitted) ∷ [] else [])
        test true = All-cons (AtMost (length g.port_values)) _ [] (omega (arith, lt, h.0)) (All-nil (AtMost (length g.port_values)))
        test false = All-nil (AtMost (length g.port_values))

collected-fit : (t : ℕ) (tree : Tree) (ss : List LeafState) → FitsTree tree ss → AllZip GivesAt (leaves tree) (output_bags t ss)
collected-fit t tree ss h = zip-map Fits GivesAt (collected_of t) (collected_of-fits t) (leaves tree) ss h

-- ---- a leaf that moves

leaf_moved-fits : (t : ℕ) (emitted : List LeafState) (woken : Bool) (bag : Bag) (l : Leaf) (s : LeafState) → Fits l s → MovedHas (Fits l) (leaf_moved t emitted woken bag l s)
leaf_moved-fits t emitted woken bag (atomic_leaf name class settings) (box_state b) h = boxed (moved_state b.kind b.settings b.state t bag)
  where
    boxed : (o : Option (List ℤ)) → MovedHas (Fits (atomic_leaf name class settings)) (box_moved b o)
    boxed None = tt
    boxed (Some s) = h
leaf_moved-fits t emitted woken bag (atomic_leaf name class settings) (cell_state c) h = tt
leaf_moved-fits t emitted woken bag (cell_leaf g first cell) (box_state b) h = absurd h
leaf_moved-fits t emitted woken bag (cell_leaf g first cell) (cell_state c) h =
    stepped (cell_moved g cell t woken (sight_of t emitted g first cell) bag (cell_emitted t c))
    (cell_moved-has (suc (length g.port_values)) (length g.variable_values) g cell t woken (sight_of t emitted g first cell) bag (cell_emitted t c) (cell_emitted-has (suc (length g.port_values)) (length g.variable_values) t c h))
  where
    stepped : (r : Stepped) → IfOk r (HasNumbers (suc (length g.port_values)) (length g.variable_values)) → MovedHas (Fits (cell_leaf g first cell)) (cell_result r)
    stepped (Ok d) k = k
    stepped (Err why) k = tt

abbrev pub MovesTo : Leaf → Moved → Type 0
MovesTo l m = MovedHas (Fits l) m

asked-fits : (t : ℕ) (emitted : List LeafState) (gave : List Bag) (l : Leaf) (s : LeafState) (bag : Bag) → Fits l s → MovesTo l (move_in_cycle t emitted gave l s bag)
asked-fits t emitted gave l s bag h = moves (is_at t (leaf_next s) || is_woken gave l || has_values bag)
  where
    moves : (b : Bool) → MovesTo l (if b then leaf_moved t emitted (is_woken gave l) bag l s else stayed)
    moves true = leaf_moved-fits t emitted (is_woken gave l) bag l s h
    moves false = tt

all_asked-fit : (t : ℕ) (emitted : List LeafState) (gave : List Bag) (ls : List Leaf) (ss : List LeafState) (bags : List Bag) → AllZip Fits ls ss → AllZip TakesAt ls bags → AllZip MovesTo ls (all_asked t emitted gave ls ss bags)
all_asked-fit t emitted gave [] ss bags h k = tt
all_asked-fit t emitted gave (l ∷ ls) [] bags h k = absurd h
all_asked-fit t emitted gave (l ∷ ls) (s ∷ ss) [] h k = absurd k
all_asked-fit t emitted gave (l ∷ ls) (s ∷ ss) (b ∷ bs) h k = (asked-fits t emitted gave l s b h.0, all_asked-fit t emitted gave ls ss bs h.1 k.1)

pub moves-fit : (tree : Tree) (t : ℕ) (s : RunState) → FitsTree tree s.leaf_states → AllZip MovesTo (leaves tree) (moves_at tree t s)
moves-fit tree t s h =
    all_asked-fit t (map (leaf_emitted t) s.leaf_states) (output_bags t s.leaf_states) (leaves tree) s.leaf_states (bags tree (output_bags t s.leaf_states) (at_top tree t s.events)) h
    (bags-fit tree (output_bags t s.leaf_states) (at_top tree t s.events))

after-fits : (l : Leaf) (s : LeafState) (m : Moved) → Fits l s → MovesTo l m → Fits l (after s m)
after-fits l s stayed h k = h
after-fits l s (moved n) h k = k
after-fits l s (stopped why) h k = h

pub all_after-fit : (ls : List Leaf) (ss : List LeafState) (ms : List Moved) → AllZip Fits ls ss → AllZip MovesTo ls ms → AllZip Fits ls (all_after ss ms)
all_after-fit [] [] [] h k = tt
all_after-fit [] [] (m ∷ ms) h k = absurd k
all_after-fit [] (s ∷ ss) ms h k = absurd h
all_after-fit (l ∷ ls) [] ms h k = absurd h
all_after-fit (l ∷ ls) (s ∷ ss) [] h k = absurd k
all_after-fit (l ∷ ls) (s ∷ ss) (m ∷ ms) h k = (after-fits l s m h.0 k.0, all_after-fit ls ss ms h.1 k.1)

-- ---- records

-- all records of bags are at ports of their leaves
records-fit : (P : Leaf → ℕ → Type 0) (tree : Tree) (bs : List Bag) → AllZip (λ l (bag : Bag). All (λ (o : PortNo × Value). P l o.0.0) bag) (leaves tree) bs → All (λ (r : PortRecord). OfLeaf tree r.leaf (λ l. P l r.port)) (records_of_bags bs)
records-fit P tree bs h =
    flat_map-each (λ (r : PortRecord). OfLeaf tree r.leaf (λ l. P l r.port)) port_records (λ (b : ℕ × Bag). OfLeaf tree b.0 (λ l. All (λ (o : PortNo × Value). P l o.0.0) b.1))
    (λ b k. of_bag b (slice_get (leaves tree) b.0) refl k) (enumerate_from 0 bs)
    (numbered (λ l (bag : Bag). All (λ (o : PortNo × Value). P l o.0.0) bag) (leaves tree) (leaves tree) bs 0 (λ k. ap (slice_get (leaves tree)) (omega arith)) h)
  where
    of_bag : (b : ℕ × Bag) (o : Option Leaf) → slice_get (leaves tree) b.0 ≡ o → IsSomeAnd o (λ l. All (λ (i : PortNo × Value). P l i.0.0) b.1) → All (λ (r : PortRecord). OfLeaf tree r.leaf (λ l. P l r.port)) (port_records b)
    of_bag b None is k = absurd k
    of_bag b (Some l) is k =
        map-each (λ (r : PortRecord). OfLeaf tree r.leaf (λ l. P l r.port)) (λ (o : PortNo × Value). record { leaf = b.0; port = o.0.0; value = o.1 }) (λ (o : PortNo × Value). P l o.0.0)
        (λ o q. subst (λ x. IsSomeAnd x (λ l. P l o.0.0)) (sym is) q) b.1 k

of_leaf-weaker : (o : Option Leaf) (P Q : Leaf → Type 0) → ((l : Leaf) → P l → Q l) → IsSomeAnd o P → IsSomeAnd o Q
of_leaf-weaker None P Q each h = h
of_leaf-weaker (Some l) P Q each h = each l h

further : (l : Leaf) (port : ℕ) → (port == 0) ≡ false → IsOutPort l port → IsFurtherPort l port
further (atomic_leaf name class settings) port isnt h = absurd (grind (arith, nat_tests))
further (cell_leaf g first cell) port isnt h = let some : 0 < port = grind (arith, nat_tests) in (some, h)

is_false : (b : Bool) → not b ≡ true → b ≡ false
is_false true e = sym e
is_false false e = refl

computed-fits : (l : Leaf) (s : LeafState) → Fits l s → IsStateValue l (computed_of s)
computed-fits (atomic_leaf name class settings) (box_state b) h = refl
computed-fits (atomic_leaf name class settings) (cell_state c) h = absurd h
computed-fits (cell_leaf g first cell) (box_state b) h = absurd h
computed-fits (cell_leaf g first cell) (cell_state c) h = first_port c.ports h.0
  where
    first_port : (ps : List PortState) → length ps ≡ suc (length g.port_values) → IsSome (option_map (λ (p : PortState). p.computed) (slice_get ps 0))
    first_port [] e = absurd (omega (arith, e))
    first_port (p ∷ ps) e = refl

state_record-fits : (tree : Tree) (leaf : ℕ) (m : Moved) → OfLeaf tree leaf (λ l. MovesTo l m) → IfSome (record_of_move leaf m) (λ (r : StateRecord). OfLeaf tree r.leaf (λ l. IsStateValue l r.value))
state_record-fits tree leaf stayed h = tt
state_record-fits tree leaf (moved s) h = of_leaf-weaker (slice_get (leaves tree) leaf) (λ l. Fits l s) (λ l. IsStateValue l (computed_of s)) (λ l. computed-fits l s) h
state_record-fits tree leaf (stopped why) h = tt

cycle-fits : (tree : Tree) (t : ℕ) (s : RunState) → FitsTree tree s.leaf_states → NamesItsParts tree (cycle_of tree t (output_bags t s.leaf_states) (at_top tree t s.events) (moves_at tree t s))
cycle-fits tree t s h =
    let gave = output_bags t s.leaf_states in
    let top = at_top tree t s.events in
    let all = records_of_bags gave in
    let records = records-fit IsOutPort tree gave (collected-fit t tree s.leaf_states h) in
    let passes = filter_passes is_of_out all in
    let others = filter_passes (λ r. not (is_of_out r)) all in
    let own = All-filter is_of_out (λ (r : PortRecord). OfLeaf tree r.leaf (λ l. IsOutPort l r.port)) all records in
    let rest = All-filter (λ r. not (is_of_out r)) (λ (r : PortRecord). OfLeaf tree r.leaf (λ l. IsOutPort l r.port)) all records in
    let outs = top_pulled tree (given_by_leaf gave) in
    record {
      y = λ k d lt. at_zero (get_or (filter is_of_out all) k d) (passes k d lt) (own k d lt);
      n = λ k d lt. at_further (get_or (filter (λ r. not (is_of_out r)) all) k d) (others k d lt) (rest k d lt);
      x = records-fit IsInPort tree (bags tree gave top) (bags-fit tree gave top);
      s = filter_map-each (λ (r : StateRecord). OfLeaf tree r.leaf (λ l. IsStateValue l r.value)) state_record (λ (m : ℕ × Moved). OfLeaf tree m.0 (λ l. MovesTo l m.1)) (λ m k. state_record-fits tree m.0 m.1 k)
          (enumerate_from 0 (moves_at tree t s)) (numbered MovesTo (leaves tree) (leaves tree) (moves_at tree t s) 0 (λ k. ap (slice_get (leaves tree)) (omega arith)) (moves-fit tree t s h));
      out = flat_map-each (λ (r : OutRecord). r.port < length (outs_of tree)) out_records (λ (p : ℕ × List Value). p.0 < length (outs_of tree))
          (λ p lt. map-each (λ (r : OutRecord). r.port < length (outs_of tree)) (λ v. record { port = p.0; value = v }) (λ v. ⊤) (λ v q. lt) p.1 (λ k d q. tt))
          (enumerate_from 0 outs) (numbers-below outs 0 (length (outs_of tree)) (omega (arith, length-map (outs_of tree) (given_out tree 0 (given_by_leaf gave)))));
    }
  where
    at_zero : (r : PortRecord) → is_of_out r ≡ true → OfLeaf tree r.leaf (λ l. IsOutPort l r.port) → OfLeaf tree r.leaf (λ l. r.port ≡ 0)
    at_zero r e k = let zero : r.port ≡ 0 = grind (arith, nat_tests) in of_leaf-weaker (slice_get (leaves tree) r.leaf) (λ l. IsOutPort l r.port) (λ l. r.port ≡ 0) (λ l q. zero) k

    at_further : (r : PortRecord) → not (is_of_out r) ≡ true → OfLeaf tree r.leaf (λ l. IsOutPort l r.port) → OfLeaf tree r.leaf (λ l. IsFurtherPort l r.port)
    at_further r e k =
        of_leaf-weaker (slice_get (leaves tree) r.leaf) (λ l. IsOutPort l r.port) (λ l. IsFurtherPort l r.port) (λ l. further l r.port (is_false (is_of_out r) e)) k

-- ---- runs

pub one-cycle-fits : CycleFits
one-cycle-fits tree end limit s n c h e =
    let is = is_cycled tree end limit s n c e in
    let after = all_after-fit (leaves tree) s.leaf_states (moves_at tree is.0 s) h (moves-fit tree is.0 s h) in
    (subst (NamesItsParts tree) (sym is.1.cycle) (cycle-fits tree is.0 s h), subst (λ (m : RunState). FitsTree tree m.leaf_states) (sym is.1.next) after)

pub runs-fit : RunsFit
runs-fit tree end limit s l _ v h (ends e) = (All-nil (NamesItsParts tree), h)
runs-fit tree end limit s l _ v h (goes {n} {c} {cs} e q) =
    let one = one-cycle-fits tree end limit s n c h e in
    let rest = runs-fit tree end limit n l cs v one.1 q in
    (All-cons (NamesItsParts tree) c cs one.0 rest.0, rest.1)

initial-fits : (l : Leaf) → Fits l (initial_leaf l)
initial-fits (atomic_leaf name class settings) = (refl, refl)
initial-fits (cell_leaf g first cell) = (length-map (unwrap_or (slice_get g.initial cell) Undefined ∷ g.port_values) initial_port, refl)

pub start-fits : StartFits
start-fits tree events = zip-from Fits initial_leaf initial-fits (leaves tree)
