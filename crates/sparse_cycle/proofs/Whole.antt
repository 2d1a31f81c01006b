-- A cycle of all leaves is the cycle of the leaves that matter.
use Rattle.std.proofs.Common.{◌≡◌, ℕ, zero, suc, ◌+◌, ◌<◌, Bool, true, false, true≢false, ◌||◌, Option, Some, None, List, [], ◌∷◌, ◌++◌, map, length, refl, sym, ◌∙◌, ap, subst, arith, length-append}
use Rattle.std.specs.Prelude.{slice_get, unwrap_or, if◌then◌else◌, nat_lt, nat_le, not, ◌==◌}
use Rattle.std.specs.List.{AllZip, filter, filter_map, flat_map, enumerate_from, range_with_len}
use Rattle.std.proofs.lemmas.List.{length-map}
use Rattle.std.proofs.lemmas.Slice.Zip.{AllZip-long}
use Rattle.quantity.specs.declared.value.Value.{Value}
use Rattle.rule_tree.specs.declared.outcome.RuleStop.{RuleStop}
use Rattle.cell_grid.specs.Space.{cell_count}
use Rattle.atomic_face.specs.Classes.{Bag, is_at}
use Rattle.model_tree.specs.Tree.{Word, Tree, Trees, coupled, cells, atomic, nil, cons, Leaf, cell_leaf, name_of, leaf_count, leaves_from, all_leaves_from, leaves}
use Rattle.model_tree.specs.Pull.{cell_ports, is_child, is_cell, what_links_bring, nothing, given_by, taken_in, all_taken_in, arrivals_by_leaf, top_pulled}
use Rattle.run_model.specs.Cycle.{LeafState, leaf_next, leaf_emitted, collected_of, output_bags, given_by_leaf, bag_of, bags, has_values, Moved, stayed, leaf_moved, move_in_cycle, moves, first_stop, after, all_after}
use Rattle.run_model.specs.Run.{PortRecord, OutRecord, Event, RunState, port_records, records_of_bags, is_of_out, state_record, out_records, at_top, cycle_of, cycles_at, state_after, Next, ended, cycled, done, too_many, unless_stop, next_instant, next_at, cycled_at, next_cycle}
use Rattle.run_model.specs.Fitting.{Fits, FitsTree}
use Rattle.sparse_cycle.specs.Sparse as sparse
use Rattle.sparse_cycle.specs.Sparse.{leaf_of, no_leaf, over, places, is_due, due_leaves, given_among, emitted_among, is_woken_at, woken_by, bag_in, is_touched, touched_leaves, move_to, move_at, moved_from, first_stop_among, moved_among, after_among, from_source, brings, fed_among, out_among, paths, out_paths, Parts, cycle_of_parts, state_of_parts, next_of_parts, sparse_at, sparse_next}
use Rattle.sparse_cycle.specs.Laws.{CycleIsSparse, NextIsSparse}
use Rattle.sparse_cycle.proofs.Lists.{flat_map-kept}
use Rattle.sparse_cycle.proofs.Records.{woken-by, bag-in}
use Rattle.sparse_cycle.proofs.Quiet.{quiet-emitted, quiet-collected, waits-from}
use Rattle.sparse_cycle.proofs.Places.{over-places, over-agree, changed-map, changed-agree}
use Rattle.sparse_cycle.proofs.Fed.{fed-is, out-is}
use Rattle.sparse_cycle.proofs.Asked.{from-emitted, Moves, fits-moves, after-same, all-asked, tested, first-stop, state-records, all-after, each-goes}

-- ---- each leaf has a bag

mutual
  taken-long : (t : Tree) (first n : ℕ) (give : ℕ → List Value) (own : Word → List Value) → length (taken_in t n give own) ≡ length (leaves_from t first)
  taken-long (coupled name ins outs children links) first n give own =
      all-taken-long children first n give (λ child port. what_links_bring links (is_child port child) own (given_by children n give) nothing)
  taken-long (cells g) first n give own =
      length-map (range_with_len 0 (cell_count g.space)) (λ k. map (λ port. what_links_bring g.links (is_cell port k) own (λ p c. []) (λ m. give (n + m))) (cell_ports g k))
      ∙ sym (length-map (range_with_len 0 (cell_count g.space)) (cell_leaf g first))
  taken-long (atomic name class settings) first n give own = refl

  all-taken-long : (ts : Trees) (first n : ℕ) (give : ℕ → List Value) (own : Word → Word → List Value) → length (all_taken_in ts n give own) ≡ length (all_leaves_from ts first)
  all-taken-long nil first n give own = refl
  all-taken-long (cons t ts) first n give own =
      let one = taken-long t first n give (own (name_of t)) in
      let more = all-taken-long ts (first + leaf_count t) (n + leaf_count t) give own in
      length-append (taken_in t n give (own (name_of t))) (all_taken_in ts (n + leaf_count t) give own)
      ∙ (λ i. one i + more i)
      ∙ sym (length-append (leaves_from t first) (all_leaves_from ts (first + leaf_count t)))

bags-long : (tree : Tree) (gave : List Bag) (top : Word → List Value) → length (bags tree gave top) ≡ length (leaves tree)
bags-long tree gave top = length-map (arrivals_by_leaf tree (given_by_leaf gave) top) bag_of ∙ taken-long tree 0 0 (given_by_leaf gave) top

-- ---- places

pub leaf-mapped : (t : ℕ) (xs : List LeafState) (l : ℕ) → leaf_of (map (leaf_emitted t) xs) l ≡ leaf_emitted t (leaf_of xs l)
leaf-mapped t [] l = refl
leaf-mapped t (x ∷ xs) zero = refl
leaf-mapped t (x ∷ xs) (suc l) = leaf-mapped t xs l

pub found-at : (ls : List Leaf) (n : ℕ) → n < length ls → (l : Leaf) × (slice_get ls n ≡ Some l)
found-at [] n lt = absurd (omega (arith, lt))
found-at (l ∷ ls) zero lt = (l, refl)
found-at (l ∷ ls) (suc n) lt = found-at ls n (omega (arith, lt))

pub fits-at : (ls : List Leaf) (ss : List LeafState) (n : ℕ) (leaf : Leaf) → AllZip Fits ls ss → slice_get ls n ≡ Some leaf → Fits leaf (leaf_of ss n)
fits-at [] ss n leaf h e = absurd cc
fits-at (l ∷ ls) [] n leaf h e = absurd h
fits-at (l ∷ ls) (s ∷ ss) zero leaf h e = let same : l ≡ leaf = cc in subst (λ x. Fits x s) same h.0
fits-at (l ∷ ls) (s ∷ ss) (suc n) leaf h e = fits-at ls ss n leaf h.1 e

given-from : (t : ℕ) (all xs : List LeafState) (k : ℕ) → ((j n : ℕ) → n ≡ k + j → leaf_of all n ≡ leaf_of xs j) → flat_map port_records (enumerate_from k (map (collected_of t) xs)) ≡ flat_map (sparse.given_by t all) (range_with_len k (length xs))
given-from t all [] k at = refl
given-from t all (x ∷ xs) k at =
    let here : leaf_of all k ≡ x = at 0 k (omega arith) in
    let rest = given-from t all xs (k + 1) (λ j n is. at (suc j) n (omega (arith, is))) in
    λ i. port_records (k, collected_of t (sym here i)) ++ rest i

pub or-false-left : (a b : Bool) → (a || b) ≡ false → a ≡ false
or-false-left true b e = absurd (true≢false e)
or-false-left false b e = refl

-- what is asked of a leaf: o is the leaf, s its state and e that state after its emission
abbrev answer : ℕ → List LeafState → List PortRecord → LeafState → Option Leaf → LeafState → Bag → Moved
answer t em given s o e bag =
    if is_at t (leaf_next s) || is_woken_at given o || has_values bag then move_to t em (is_woken_at given o) bag o e else stayed

-- ---- one cycle

module _ (tree : Tree) (t : ℕ) (s : RunState) (fits : FitsTree tree s.leaf_states) (next : next_instant s ≡ Some t) where
  abbrev pub ss : List LeafState
  ss = s.leaf_states

  abbrev pub gave : List Bag
  gave = output_bags t ss

  abbrev pub top : Word → List Value
  top = at_top tree t s.events

  abbrev pub got : List Bag
  got = bags tree gave top

  abbrev pub em : List LeafState
  em = map (leaf_emitted t) ss

  abbrev pub given : List PortRecord
  given = records_of_bags gave

  abbrev pub fed : List PortRecord
  fed = records_of_bags got

  abbrev pub test : ℕ → Bool
  test = is_touched tree t ss given fed

  abbrev pub move : ℕ → Moved
  move = move_at tree t em given fed

  abbrev pub ms : List Moved
  ms = moves tree t ss gave top

  abbrev count : ℕ
  count = length ss

  long : length (leaves tree) ≡ length ss
  long = sym (AllZip-long Fits (leaves tree) ss fits)

  pub given-is : given_among t ss (due_leaves t ss) ≡ given
  given-is =
      flat_map-kept (sparse.given_by t ss) (is_due t ss) (λ l off. ap (λ bag. port_records (l, bag)) (quiet-collected t (leaf_of ss l) (waits-from t s next l) off)) (range_with_len 0 (length ss))
      ∙ sym (given-from t ss ss 0 (λ j n is. let same : n ≡ j = omega (arith, is) in ap (leaf_of ss) same))

  emitted-is : emitted_among t ss (due_leaves t ss) ≡ em
  emitted-is =
      over-places (λ l x. leaf_emitted t x) (is_due t ss) ss (λ l off. quiet-emitted t (leaf_of ss l) (waits-from t s next l) off)
      ∙ changed-map (leaf_emitted t) 0 ss

  asked-here : (n : ℕ) (leaf : Leaf) → slice_get (leaves tree) n ≡ Some leaf → move_in_cycle t em gave leaf (leaf_of ss n) (unwrap_or (slice_get got n) []) ≡ tested test move n
  asked-here n leaf found =
      let here = leaf_of ss n in
      let bag = unwrap_or (slice_get got n) [] in
      let mapped = leaf-mapped t ss n in
      let bag_is = bag-in got n in
      ap (λ w. if is_at t (leaf_next here) || w || has_values bag then leaf_moved t em w bag leaf here else stayed) (woken-by gave leaf)
      ∙ ap (λ m. if is_at t (leaf_next here) || woken_by given leaf || has_values bag then m else stayed) (from-emitted t em (woken_by given leaf) bag leaf here)
      ∙ sym (λ i. answer t em given here (found i) (mapped i) (bag_is i))

  asked-is : (j n : ℕ) (leaf : Leaf) → n ≡ 0 + j → slice_get (leaves tree) j ≡ Some leaf → move_in_cycle t em gave leaf (leaf_of ss j) (unwrap_or (slice_get got j) []) ≡ tested test move n
  asked-is j n leaf is found = let same : j ≡ n = omega (arith, is) in asked-here j leaf found ∙ ap (tested test move) same

  pub moves-are : ms ≡ map (tested test move) (range_with_len 0 (length ss))
  moves-are = all-asked t em gave (tested test move) 0 (leaves tree) ss got long (bags-long tree gave top ∙ long) asked-is

  stop-is : first_stop 0 ms ≡ first_stop_among move (touched_leaves tree t ss given fed)
  stop-is = ap (first_stop 0) moves-are ∙ first-stop test move 0 (length ss)

  records-are : filter_map state_record (enumerate_from 0 ms) ≡ moved_among move (touched_leaves tree t ss given fed)
  records-are = ap (λ l. filter_map state_record (enumerate_from 0 l)) moves-are ∙ state-records test move 0 (length ss)

  quiet-here : (n : ℕ) → test n ≡ false → leaf_emitted t (leaf_of ss n) ≡ leaf_of ss n
  quiet-here n off =
      quiet-emitted t (leaf_of ss n) (waits-from t s next n) (or-false-left (is_due t ss n) (is_woken_at given (slice_get (leaves tree) n)) (or-false-left (is_due t ss n || is_woken_at given (slice_get (leaves tree) n)) (has_values (bag_in fed n)) off))

  pub moves-here : (n : ℕ) → n < length ss → Moves (move n)
  moves-here n lt =
      let found = found-at (leaves tree) n (omega (arith, lt, long)) in
      let woken = is_woken_at given (slice_get (leaves tree) n) in
      let bag = bag_in fed n in
      let one = fits-moves t em woken bag found.0 (leaf_of ss n) (fits-at (leaves tree) ss n found.0 fits found.1) in
      let two = subst (λ e. Moves (move_to t em woken bag (Some found.0) e)) (sym (leaf-mapped t ss n)) one in
      subst (λ o. Moves (move_to t em woken bag o (leaf_of em n))) (sym found.1) two

  same-after : first_stop_among move (touched_leaves tree t ss given fed) ≡ None → (j n : ℕ) → n ≡ 0 + j → j < length ss → after (leaf_emitted t (leaf_of ss j)) (tested test move n) ≡ after (leaf_of ss j) (tested test move n)
  same-after none j n is lt =
      let same : n ≡ j = omega (arith, is) in
      let goes = each-goes test move 0 (length ss) (first-stop test move 0 (length ss) ∙ none) j n is lt in
      let at : after (leaf_emitted t (leaf_of ss n)) (tested test move n) ≡ after (leaf_of ss n) (tested test move n)
      = after-same (leaf_of ss n) (leaf_emitted t (leaf_of ss n)) (move n) (test n) (quiet-here n) (λ on. moves-here n (omega (arith, lt, same))) goes in
      subst (λ x. after (leaf_emitted t (leaf_of ss x)) (tested test move n) ≡ after (leaf_of ss x) (tested test move n)) same at

  states-are : first_stop_among move (touched_leaves tree t ss given fed) ≡ None → all_after ss ms ≡ after_among move (touched_leaves tree t ss given fed) em
  states-are none =
      let done_by : ℕ → LeafState → LeafState = λ l x. after x (tested test move l) in
      ap (all_after ss) moves-are ∙ all-after test move 0 ss
      ∙ sym (changed-agree done_by done_by (leaf_emitted t) 0 ss (same-after none))
      ∙ sym (over-places done_by test em (λ l off. ap (λ b. after (leaf_of em l) (if b then move l else stayed)) off))
      ∙ ap (λ n. over done_by (filter test (range_with_len 0 n)) em) (length-map ss (leaf_emitted t))
      ∙ sym (over-agree (λ l x. after x (move l)) done_by test (λ l on x. ap (λ b. after x (if b then move l else stayed)) (sym on)) (range_with_len 0 (length ss)) em)

  -- the cycle, from what each leaf gave and got
  abbrev with_parts : List PortRecord → List LeafState → List PortRecord → List OutRecord → Next
  with_parts g e f o =
      next_of_parts t s (record { given = g; emitted = e; fed = f; out = o; touched = touched_leaves tree t ss g f; move = move_at tree t e g f })

  abbrev outs : List OutRecord
  outs = flat_map out_records (enumerate_from 0 (top_pulled tree (given_by_leaf gave)))

  abbrev full : Parts
  full = record { given = given; emitted = em; fed = fed; out = outs; touched = touched_leaves tree t ss given fed; move = move }

  cycle-is : cycle_of tree t gave top ms ≡ cycle_of_parts t full
  cycle-is =
      λ i. record { time = t; y = filter is_of_out given; n = filter (λ r. not (is_of_out r)) given; x = fed; s = records-are i; out = outs }

  state-is : first_stop_among move (touched_leaves tree t ss given fed) ≡ None → state_after t s ms ≡ state_of_parts t s full
  state-is none = λ i. record { leaf_states = states-are none i; events = filter (λ (e : Event). not (e.time == t)) s.events; last = Some t; count = cycles_at t s + 1 }

  by-stop : (o : Option (ℕ × RuleStop)) → first_stop_among move (touched_leaves tree t ss given fed) ≡ o → unless_stop t o (cycle_of tree t gave top ms) (state_after t s ms) ≡ unless_stop t o (cycle_of_parts t full) (state_of_parts t s full)
  by-stop None is = λ i. cycled (cycle-is i) (state-is is i)
  by-stop (Some p) is = refl

  abbrev pub fed_with : List PortRecord → List PortRecord
  fed_with g = fed_among (from_source g top) (filter (brings (from_source g top)) (paths tree))

  abbrev out_with : List PortRecord → List OutRecord
  out_with g = out_among (from_source g top) (filter (brings (from_source g top)) (out_paths tree))

  pub touched-are : touched_leaves tree t ss given fed ≡ touched_leaves tree t ss (given_among t ss (due_leaves t ss)) (fed_with (given_among t ss (due_leaves t ss)))
  touched-are =
      ap (touched_leaves tree t ss given) (fed-is tree gave top)
      ∙ (λ i. touched_leaves tree t ss (sym given-is i) (fed_with (sym given-is i)))

  pub is-sparse : cycled_at tree t s ≡ sparse_at tree t s
  is-sparse =
      ap (λ o. unless_stop t o (cycle_of tree t gave top ms) (state_after t s ms)) stop-is
      ∙ by-stop (first_stop_among move (touched_leaves tree t ss given fed)) refl
      ∙ (λ i. with_parts given em (fed-is tree gave top i) (out-is tree gave top i))
      ∙ (λ i. with_parts (sym given-is i) (sym emitted-is i) (fed_with (sym given-is i)) (out_with (sym given-is i)))

pub cycle-is-sparse : CycleIsSparse
cycle-is-sparse tree t s fits next = is-sparse tree t s fits next

by-instant : (tree : Tree) (end limit : ℕ) (s : RunState) → FitsTree tree s.leaf_states → (o : Option ℕ) → next_instant s ≡ o → next_at tree end limit s o ≡ sparse_next tree end limit s o
by-instant tree end limit s fits None is = refl
by-instant tree end limit s fits (Some t) is =
    ap (λ n. if nat_lt end t then ended done else if nat_le limit (cycles_at t s) then ended (too_many t) else n) (cycle-is-sparse tree t s fits is)

pub next-is-sparse : NextIsSparse
unfolding next_cycle
next-is-sparse tree end limit s fits = by-instant tree end limit s fits (next_instant s) refl
