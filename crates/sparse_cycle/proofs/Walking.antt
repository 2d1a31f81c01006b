-- Leaves that move one after another move as all at once.
use Rattle.std.proofs.Common.{◌≡◌, ◌≢◌, ◌⊎◌, inl, inr, ⊎_elim, ℕ, zero, suc, ◌+◌, ◌<◌, ◌≤◌, Bool, true, false, cond, ◌||◌, Option, Some, None, List, [], ◌∷◌, map, length, set, refl, sym, ◌∙◌, ap, subst, arith}
use Rattle.std.specs.Prelude.{slice_get, if◌then◌else◌}
use Rattle.std.specs.List.{filter, range_with_len, cons_option}
use Rattle.std.proofs.lemmas.List.{ext_get_or, get_or-set_other, length-set, length-map}
use Rattle.std.proofs.lemmas.List.Elements.{filter_agree}
use Rattle.std.proofs.lemmas.Grind.{get_or-set_at}
use Rattle.std.proofs.lemmas.Bool.{cases_eq}
use Rattle.std.proofs.lemmas.Slice.Zip.{AllZip-long}
use Rattle.rule_tree.specs.declared.outcome.RuleStop.{RuleStop}
use Rattle.atomic_face.specs.Classes.{is_at}
use Rattle.model_tree.specs.Tree.{Tree, leaves}
use Rattle.quantity.specs.Times.{earlier}
use Rattle.run_model.specs.Cycle.{LeafState, leaf_next, leaf_emitted, has_values, Moved, stayed, moved, stopped, after, next_of_all}
use Rattle.run_model.specs.Run.{PortRecord, StateRecord, RunState, record_of_move, next_instant}
use Rattle.run_model.specs.Fitting.{Fits, FitsTree}
use Rattle.time_queue.specs.Waiting as queue
use Rattle.time_queue.specs.Waiting.{waiting_time, least_time, leaves_at, undue, without}
use Rattle.sparse_cycle.specs.Sparse.{leaf_of, no_leaf, is_due, due_leaves, emitted_among, is_woken_at, bag_in, is_touched, move_to, move_at, or_stop, first_stop_among, moved_among, after_among, cycle_parts}
use Rattle.sparse_cycle.specs.Walk.{with_leaf, Walked, walked, unless_stopped, and_record, leaf_walk, waits, at_once, WalkIsAtOnce, QueueKnows, EachMoves}
use Rattle.sparse_cycle.proofs.Quiet.{quiet-emitted, waits-from}
use Rattle.sparse_cycle.proofs.Places.{over-places, changed-map}
use Rattle.sparse_cycle.proofs.Asked.{Moves, fits-moves}
use Rattle.sparse_cycle.proofs.Whole.{leaf-mapped, found-at, fits-at, or-false-left}
use Rattle.sparse_cycle.proofs.Sights.{emitted_of, move-emits, SeesAlike, move-alike}

-- ---- next times

waits-at : (xs : List LeafState) (j : ℕ) → waiting_time (waits xs) j ≡ leaf_next (leaf_of xs j)
waits-at [] j = refl
waits-at (x ∷ xs) zero = refl
waits-at (x ∷ xs) (suc j) = waits-at xs j

without-at : (t : ℕ) (w : List (Option ℕ)) (j : ℕ) → waiting_time (without t w) j ≡ undue t (waiting_time w j)
without-at t [] j = refl
without-at t (o ∷ w) zero = refl
without-at t (o ∷ w) (suc j) = without-at t w j

same-due : (t : ℕ) (o : Option ℕ) → queue.is_due t o ≡ is_at t o
same-due t None = refl
same-due t (Some n) = refl

least-is : (xs : List LeafState) → least_time (waits xs) ≡ next_of_all xs
least-is [] = refl
least-is (x ∷ xs) = ap (earlier (leaf_next x)) (least-is xs)

due-is : (xs : List LeafState) (t : ℕ) → leaves_at t (waits xs) ≡ due_leaves t xs
due-is xs t =
    filter_agree (λ l. queue.is_due t (waiting_time (waits xs) l)) (is_due t xs) (λ l. same-due t (waiting_time (waits xs) l) ∙ ap (is_at t) (waits-at xs l)) (range_with_len 0 (length (waits xs)))
    ∙ ap (λ n. filter (is_due t xs) (range_with_len 0 n)) (length-map xs leaf_next)

pub queue-knows : QueueKnows
queue-knows = record { least = least-is; due = due-is }

-- ---- the walk

once-more : (k : ℕ) (m : Moved) (o : Option (ℕ × RuleStop)) (states : List LeafState) (rs : List StateRecord) → and_record k m (at_once o states rs) ≡ at_once o states (cons_option (record_of_move k m) rs)
once-more k m None states rs = refl
once-more k m (Some p) states rs = refl

one-step : (k : ℕ) (m : Moved) (go : Moved → Walked) (o : Option (ℕ × RuleStop)) (states : List LeafState) (rs : List StateRecord) → go m ≡ at_once o states rs → unless_stopped k m (λ x. and_record k x (go x)) ≡ at_once (or_stop k m o) states (cons_option (record_of_move k m) rs)
one-step k stayed go o states rs on = ap (and_record k stayed) on ∙ once-more k stayed o states rs
one-step k (moved s) go o states rs on = ap (and_record k (moved s)) on ∙ once-more k (moved s) o states rs
one-step k (stopped why) go o states rs on = refl

either-below : (j k : ℕ) (A : Type 0) → A ⊎ (j < k + 1) → j ≢ k → A ⊎ (j < k)
either-below j k A (inl a) ne = inl a
either-below j k A (inr lt) ne = inr (omega (arith, lt, ne))

module _ (tree : Tree) (t : ℕ) (given fed : List PortRecord) (em : List LeafState) (test : ℕ → Bool) where
  abbrev move : ℕ → Moved
  move = move_at tree t em given fed

  -- from place k on nothing has moved, and before it all that is to move
  record Half (k n : ℕ) (now : List LeafState) (w : List (Option ℕ)) : Type 0 where
    long : length now ≡ k + n
    times : length w ≡ k + n
    ahead : (j : ℕ) → k ≤ j → leaf_of now j ≡ leaf_of em j
    alike : SeesAlike now em
    known : (j : ℕ) → (test j ≡ false) ⊎ (j < k) → waiting_time w j ≡ leaf_next (leaf_of now j)

  at-end : (k : ℕ) (now : List LeafState) (w : List (Option ℕ)) → Half k 0 now w → w ≡ waits now
  at-end k now w h =
      ext_get_or None w (waits now) (omega (arith, h.long, h.times, length-map now leaf_next))
      (λ i lt. h.known i (inr (omega (arith, lt, h.times))) ∙ sym (waits-at now i))

  passed : (k n : ℕ) (now : List LeafState) (w : List (Option ℕ)) → test k ≡ false → Half k (suc n) now w → Half (k + 1) n now w
  passed k n now w off h =
      record {
        long = omega (arith, h.long);
        times = omega (arith, h.times);
        ahead = λ j le. h.ahead j (omega (arith, le));
        alike = h.alike;
        known = λ j c. ⊎_elim (λ (e : j ≡ k). h.known j (inl (ap test e ∙ off))) (λ (ne : j ≢ k). h.known j (either-below j k (test j ≡ false) c ne)) (cases_eq j k);
      }

  stepped : (k n : ℕ) (now : List LeafState) (w : List (Option ℕ)) (v : LeafState) → emitted_of v ≡ emitted_of (leaf_of now k) → Half k (suc n) now w → Half (k + 1) n (set now k v) (set w k (leaf_next v))
  stepped k n now w v emits h =
      let within : k < length now = omega (arith, h.long) in
      let waits_within : k < length w = omega (arith, h.times) in
      record {
        long = omega (arith, h.long, length-set now k v);
        times = omega (arith, h.times, length-set w k (leaf_next v));
        ahead = λ j le. let ne : j ≢ k = λ e. omega (arith, le, e) in get_or-set_other now k j v no_leaf ne ∙ h.ahead j (omega (arith, le));
        alike = λ j. ⊎_elim
            (λ (e : j ≡ k). ap emitted_of (get_or-set_at now k j v no_leaf e within) ∙ emits ∙ h.alike k ∙ ap (λ x. emitted_of (leaf_of em x)) (sym e))
            (λ (ne : j ≢ k). ap emitted_of (get_or-set_other now k j v no_leaf ne) ∙ h.alike j) (cases_eq j k);
        known = λ j c. ⊎_elim
            (λ (e : j ≡ k). get_or-set_at w k j (leaf_next v) None e waits_within ∙ sym (ap leaf_next (get_or-set_at now k j v no_leaf e within)))
            (λ (ne : j ≢ k). get_or-set_other w k j (leaf_next v) None ne ∙ h.known j (either-below j k (test j ≡ false) c ne) ∙ sym (ap leaf_next (get_or-set_other now k j v no_leaf ne))) (cases_eq j k);
      }

  abbrev Walks : List ℕ → List LeafState → List (Option ℕ) → Type 0
  Walks ls now w =
      leaf_walk tree t given fed ls (record { leaf_states = now; waiting = w }) ≡ at_once (first_stop_among move ls) (after_among move ls now) (moved_among move ls)

  by-test : (k n : ℕ) (ls : List ℕ) (now : List LeafState) (w : List (Option ℕ)) (b : Bool) → test k ≡ b → Half k (suc n) now w → ((now : List LeafState) (w : List (Option ℕ)) → Half (k + 1) n now w → Walks ls now w) → Walks (cond b (k ∷ ls) ls) now w
  by-test k n ls now w false off h on = on now w (passed k n now w off h)
  by-test k n ls now w true on_it h on =
      let m = move_at tree t now given fed k in
      let v = after (leaf_of now k) m in
      let rest = on (set now k v) (set w k (leaf_next v)) (stepped k n now w v (move-emits tree t now given fed k) h) in
      one-step k m (λ x. leaf_walk tree t given fed ls (with_leaf (record { leaf_states = now; waiting = w }) k (after (leaf_of now k) x))) (first_stop_among move ls) (after_among move ls (set now k v)) (moved_among move ls) rest
      ∙ ap (λ x. at_once (or_stop k x (first_stop_among move ls)) (after_among move ls (set now k (after (leaf_of now k) x))) (cons_option (record_of_move k x) (moved_among move ls)))
      (move-alike tree t now em given fed k h.alike (h.ahead k (omega arith)))

  walk-from : (n k : ℕ) (now : List LeafState) (w : List (Option ℕ)) → Half k n now w → Walks (filter test (range_with_len k n)) now w
  walk-from zero k now w h = ap (λ x. walked (record { leaf_states = now; waiting = x }) []) (at-end k now w h)
  walk-from (suc n) k now w h = by-test k n (filter test (range_with_len (k + 1) n)) now w (test k) refl h (λ now w. walk-from n (k + 1) now w)

-- ---- at the next instant

emitted-is : (t : ℕ) (s : RunState) → next_instant s ≡ Some t → emitted_among t s.leaf_states (due_leaves t s.leaf_states) ≡ map (leaf_emitted t) s.leaf_states
emitted-is t s next =
    over-places (λ l x. leaf_emitted t x) (is_due t s.leaf_states) s.leaf_states (λ l off. quiet-emitted t (leaf_of s.leaf_states l) (waits-from t s next l) off)
    ∙ changed-map (leaf_emitted t) 0 s.leaf_states

untouched : (t : ℕ) (s : RunState) (em : List LeafState) (j : ℕ) → next_instant s ≡ Some t → em ≡ map (leaf_emitted t) s.leaf_states → is_due t s.leaf_states j ≡ false → waiting_time (without t (waits s.leaf_states)) j ≡ leaf_next (leaf_of em j)
untouched t s em j next is off =
    let ss = s.leaf_states in
    without-at t (waits ss) j
    ∙ ap (λ b. if b then None else waiting_time (waits ss) j) (same-due t (waiting_time (waits ss) j) ∙ ap (is_at t) (waits-at ss j) ∙ off)
    ∙ waits-at ss j
    ∙ ap leaf_next (sym (ap (λ l. leaf_of l j) is ∙ leaf-mapped t ss j ∙ quiet-emitted t (leaf_of ss j) (waits-from t s next j) off))

not-due : (tree : Tree) (t : ℕ) (ss : List LeafState) (given fed : List PortRecord) (j : ℕ) → is_touched tree t ss given fed j ≡ false → is_due t ss j ≡ false
not-due tree t ss given fed j off =
    or-false-left (is_due t ss j) (is_woken_at given (slice_get (leaves tree) j)) (or-false-left (is_due t ss j || is_woken_at given (slice_get (leaves tree) j)) (has_values (bag_in fed j)) off)

below-none : (j : ℕ) (A B : Type 0) → A ⊎ (j < 0) → (A → B) → B
below-none j A B (inl a) f = f a
below-none j A B (inr lt) f = absurd (omega (arith, lt))

pub walk-is-at-once : WalkIsAtOnce
walk-is-at-once tree t s next =
    let ss = s.leaf_states in
    let p = cycle_parts tree t s in
    let is = emitted-is t s next in
    let long : length p.emitted ≡ length ss = ap (λ (l : List LeafState). length l) is ∙ length-map ss (leaf_emitted t) in
    let times : length (without t (waits ss)) ≡ length ss = length-map (waits ss) (undue t) ∙ length-map ss leaf_next in
    walk-from tree t p.given p.fed p.emitted (is_touched tree t ss p.given p.fed) (length ss) 0 p.emitted (without t (waits ss))
    (record {
      long = omega (arith, long);
      times = omega (arith, times);
      ahead = λ j le. refl;
      alike = λ j. refl;
      known = λ j c. below-none j (is_touched tree t ss p.given p.fed j ≡ false) (waiting_time (without t (waits ss)) j ≡ leaf_next (leaf_of p.emitted j)) c
          (λ off. untouched t s p.emitted j next is (not-due tree t ss p.given p.fed j off));
    })

-- ---- each touched leaf moves

one-moves : (k : ℕ) (m : Moved) (rest : Option (ℕ × RuleStop)) (rs : List StateRecord) (ls : List ℕ) → Moves m → or_stop k m rest ≡ None → (rest ≡ None → length rs ≡ length ls) → length (cons_option (record_of_move k m) rs) ≡ suc (length ls)
one-moves k stayed rest rs ls h none on = absurd h
one-moves k (moved s) rest rs ls h none on = ap suc (on none)
one-moves k (stopped why) rest rs ls h none on = absurd cc

module _ (test : ℕ → Bool) (move : ℕ → Moved) where
  moves-by : (k : ℕ) (ls : List ℕ) (b : Bool) → Moves (move k) → (first_stop_among move ls ≡ None → length (moved_among move ls) ≡ length ls) → first_stop_among move (cond b (k ∷ ls) ls) ≡ None → length (moved_among move (cond b (k ∷ ls) ls)) ≡ length (cond b (k ∷ ls) ls)
  moves-by k ls true h on none = one-moves k (move k) (first_stop_among move ls) (moved_among move ls) ls h none on
  moves-by k ls false h on none = on none

  moves-from : (n k : ℕ) → ((j : ℕ) → j < k + n → Moves (move j)) → first_stop_among move (filter test (range_with_len k n)) ≡ None → length (moved_among move (filter test (range_with_len k n))) ≡ length (filter test (range_with_len k n))
  moves-from zero k h none = refl
  moves-from (suc n) k h none =
      moves-by k (filter test (range_with_len (k + 1) n)) (test k) (h k (omega arith)) (moves-from n (k + 1) (λ j lt. h j (omega (arith, lt)))) none

moves-there : (tree : Tree) (t : ℕ) (ss em : List LeafState) (given fed : List PortRecord) → FitsTree tree ss → em ≡ map (leaf_emitted t) ss → (n : ℕ) → n < length ss → Moves (move_at tree t em given fed n)
moves-there tree t ss em given fed fits is n lt =
    let same : length (leaves tree) ≡ length ss = sym (AllZip-long Fits (leaves tree) ss fits) in
    let found = found-at (leaves tree) n (omega (arith, lt, same)) in
    let woken = is_woken_at given (slice_get (leaves tree) n) in
    let bag = bag_in fed n in
    let one = fits-moves t em woken bag found.0 (leaf_of ss n) (fits-at (leaves tree) ss n found.0 fits found.1) in
    let two = subst (λ e. Moves (move_to t em woken bag (Some found.0) e)) (sym (ap (λ l. leaf_of l n) is ∙ leaf-mapped t ss n)) one in
    subst (λ o. Moves (move_to t em woken bag o (leaf_of em n))) (sym found.1) two

pub each-moves : EachMoves
each-moves tree t s fits next none =
    let ss = s.leaf_states in
    let p = cycle_parts tree t s in
    moves-from (is_touched tree t ss p.given p.fed) p.move (length ss) 0 (λ j lt. moves-there tree t ss p.emitted p.given p.fed fits (emitted-is t s next) j (omega (arith, lt))) none
