-- What becomes of each leaf, by its place.
use Rattle.std.proofs.Common.{◌≡◌, ℕ, zero, suc, ◌+◌, ◌<◌, Bool, true, false, cond, Option, Some, None, List, [], ◌∷◌, map, length, refl, sym, ◌∙◌, ap, subst, arith}
use Rattle.std.specs.Prelude.{slice_get, unwrap_or, if◌then◌else◌, ⊤, Ok, Err, ℤ}
use Rattle.std.specs.List.{filter, filter_map, enumerate_from, range_with_len, cons_option}
use Rattle.rule_tree.specs.declared.outcome.RuleStop.{RuleStop}
use Rattle.atomic_face.specs.Classes.{Bag, moved_state}
use Rattle.model_tree.specs.Tree.{Leaf, atomic_leaf, cell_leaf}
use Rattle.run_model.specs.CellStep.{Stepped, cell_moved, cell_emitted}
use Rattle.run_model.specs.Cycle.{LeafState, box_state, cell_state, leaf_emitted, sight_of, Moved, stayed, moved, stopped, box_moved, cell_result, leaf_moved, move_in_cycle, all_asked, first_stop, after, all_after}
use Rattle.run_model.specs.Run.{StateRecord, record_of_move, state_record}
use Rattle.run_model.specs.Fitting.{Fits}
use Rattle.sparse_cycle.specs.Sparse.{leaf_of, moved_from, or_stop, first_stop_among, moved_among}
use Rattle.sparse_cycle.proofs.Places.{changed}

-- ---- one leaf

pub from-emitted : (t : ℕ) (em : List LeafState) (woken : Bool) (bag : Bag) (l : Leaf) (s : LeafState) → leaf_moved t em woken bag l s ≡ moved_from t em woken bag l (leaf_emitted t s)
from-emitted t em woken bag (atomic_leaf name class settings) (box_state b) = refl
from-emitted t em woken bag (atomic_leaf name class settings) (cell_state c) = refl
from-emitted t em woken bag (cell_leaf g first cell) (box_state b) = refl
from-emitted t em woken bag (cell_leaf g first cell) (cell_state c) = refl

abbrev pub Moves : Moved → Type 0
Moves stayed = ⊥
Moves (moved s) = ⊤
Moves (stopped why) = ⊤

abbrev pub Goes : Moved → Type 0
Goes stayed = ⊤
Goes (moved s) = ⊤
Goes (stopped why) = ⊥

-- a leaf whose state fits it doesn't just stay
pub fits-moves : (t : ℕ) (em : List LeafState) (woken : Bool) (bag : Bag) (l : Leaf) (s : LeafState) → Fits l s → Moves (moved_from t em woken bag l (leaf_emitted t s))
fits-moves t em woken bag (atomic_leaf name class settings) (box_state b) h = boxed (moved_state b.kind b.settings b.state t bag)
  where
    boxed : (o : Option (List ℤ)) → Moves (box_moved b o)
    boxed None = tt
    boxed (Some s) = tt
fits-moves t em woken bag (atomic_leaf name class settings) (cell_state c) h = absurd h
fits-moves t em woken bag (cell_leaf g first cell) (box_state b) h = absurd h
fits-moves t em woken bag (cell_leaf g first cell) (cell_state c) h = stepped (cell_moved g cell t woken (sight_of t em g first cell) bag (cell_emitted t c))
  where
    stepped : (r : Stepped) → Moves (cell_result r)
    stepped (Ok d) = tt
    stepped (Err why) = tt

-- what is asked of a place: what becomes of its leaf, where the test holds
pub after-same : (s e : LeafState) (m : Moved) (b : Bool) → (b ≡ false → e ≡ s) → (b ≡ true → Moves m) → Goes (if b then m else stayed) → after e (if b then m else stayed) ≡ after s (if b then m else stayed)
after-same s e m false quiet moves goes = quiet refl
after-same s e m true quiet moves goes = by m (moves refl) goes
  where
    by : (m : Moved) → Moves m → Goes m → after e m ≡ after s m
    by stayed h k = absurd h
    by (moved n) h k = refl
    by (stopped why) h k = absurd k

-- ---- all leaves

-- at place n stand this leaf, this state and this bag, and what is asked there is `ask n`
module _ (t : ℕ) (em : List LeafState) (gave : List Bag) (ask : ℕ → Moved) where
  pub all-asked : (k : ℕ) (ls : List Leaf) (ss : List LeafState) (bs : List Bag) → length ls ≡ length ss → length bs ≡ length ss
      → ((j n : ℕ) (leaf : Leaf) → n ≡ k + j → slice_get ls j ≡ Some leaf → move_in_cycle t em gave leaf (leaf_of ss j) (unwrap_or (slice_get bs j) []) ≡ ask n)
      → all_asked t em gave ls ss bs ≡ map ask (range_with_len k (length ss))
  all-asked k [] [] bs a b at = refl
  all-asked k [] (s ∷ ss) bs a b at = absurd (omega (arith, a))
  all-asked k (l ∷ ls) [] bs a b at = absurd (omega (arith, a))
  all-asked k (l ∷ ls) (s ∷ ss) [] a b at = absurd (omega (arith, b))
  all-asked k (l ∷ ls) (s ∷ ss) (x ∷ bs) a b at =
      let here : move_in_cycle t em gave l s x ≡ ask k = at 0 k l (omega arith) refl in
      let rest = all-asked (k + 1) ls ss bs (omega (arith, a)) (omega (arith, b)) (λ j n leaf is found. at (suc j) n leaf (omega (arith, is)) found) in
      λ i. here i ∷ rest i

stop-step : (m : Moved) (k : ℕ) (ms : List Moved) (rest : Option (ℕ × RuleStop)) → first_stop (k + 1) ms ≡ rest → first_stop k (m ∷ ms) ≡ or_stop k m rest
stop-step stayed k ms rest e = e
stop-step (moved s) k ms rest e = e
stop-step (stopped why) k ms rest e = refl

goes-step : (m : Moved) (k : ℕ) (rest : Option (ℕ × RuleStop)) → or_stop k m rest ≡ None → Goes m × (rest ≡ None)
goes-step stayed k rest e = (tt, e)
goes-step (moved s) k rest e = (tt, e)
goes-step (stopped why) k rest e = absurd cc

module _ (test : ℕ → Bool) (move : ℕ → Moved) where
  abbrev pub tested : ℕ → Moved
  tested l = if test l then move l else stayed

  stop-by : (x : ℕ) (ys : List ℕ) (rest : Option (ℕ × RuleStop)) (b : Bool) → rest ≡ first_stop_among move ys → or_stop x (if b then move x else stayed) rest ≡ first_stop_among move (cond b (x ∷ ys) ys)
  stop-by x ys rest true e = ap (or_stop x (move x)) e
  stop-by x ys rest false e = e

  pub first-stop : (k n : ℕ) → first_stop k (map tested (range_with_len k n)) ≡ first_stop_among move (filter test (range_with_len k n))
  first-stop k zero = refl
  first-stop k (suc n) =
      stop-step (tested k) k (map tested (range_with_len (k + 1) n)) (first_stop_among move (filter test (range_with_len (k + 1) n))) (first-stop (k + 1) n)
      ∙ stop-by k (filter test (range_with_len (k + 1) n)) (first_stop_among move (filter test (range_with_len (k + 1) n))) (test k) refl

  record-by : (x : ℕ) (ys : List ℕ) (rest : List StateRecord) (b : Bool) → rest ≡ moved_among move ys → cons_option (record_of_move x (if b then move x else stayed)) rest ≡ moved_among move (cond b (x ∷ ys) ys)
  record-by x ys rest true e = ap (cons_option (record_of_move x (move x))) e
  record-by x ys rest false e = e

  pub state-records : (k n : ℕ) → filter_map state_record (enumerate_from k (map tested (range_with_len k n))) ≡ moved_among move (filter test (range_with_len k n))
  state-records k zero = refl
  state-records k (suc n) =
      record-by k (filter test (range_with_len (k + 1) n)) (filter_map state_record (enumerate_from (k + 1) (map tested (range_with_len (k + 1) n)))) (test k) (state-records (k + 1) n)

  pub all-after : (k : ℕ) (ss : List LeafState) → all_after ss (map tested (range_with_len k (length ss))) ≡ changed (λ l s. after s (tested l)) k ss
  all-after k [] = refl
  all-after k (s ∷ ss) = ap (λ l. after s (tested k) ∷ l) (all-after (k + 1) ss)

  -- where none stops, none has stopped at any place
  split : (k n : ℕ) → first_stop k (map tested (range_with_len k (suc n))) ≡ None → Goes (tested k) × (first_stop (k + 1) (map tested (range_with_len (k + 1) n)) ≡ None)
  split k n none =
      let rest = first_stop (k + 1) (map tested (range_with_len (k + 1) n)) in
      goes-step (tested k) k rest (sym (stop-step (tested k) k (map tested (range_with_len (k + 1) n)) rest refl) ∙ none)

  pub each-goes : (k n : ℕ) → first_stop k (map tested (range_with_len k n)) ≡ None → (j m : ℕ) → m ≡ k + j → j < n → Goes (tested m)
  each-goes k zero none j m is lt = absurd (omega (arith, lt))
  each-goes k (suc n) none zero m is lt = let same : k ≡ m = omega (arith, is) in subst (λ x. Goes (tested x)) same (split k n none).0
  each-goes k (suc n) none (suc j) m is lt = each-goes (k + 1) n (split k n none).1 j m (omega (arith, is)) (omega (arith, lt))
