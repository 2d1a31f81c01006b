-- Leaves that give one after another give as all at once.
use Rattle.std.proofs.Common.{◌≡◌, ℕ, zero, suc, ◌+◌, ◌≤◌, Bool, true, false, cond, ◌||◌, eqb, eqb-true, true≢false, Option, Some, None, List, [], ◌∷◌, ◌++◌, length, set, get_or-set_other, refl, sym, ◌∙◌, ap, arith}
use Rattle.std.specs.List.{filter, range_with_len}
use Rattle.std.proofs.lemmas.List.Elements.{filter-append}
use Rattle.atomic_face.specs.Classes.{Bag, is_at}
use Rattle.run_model.specs.Cycle.{LeafState, leaf_next, leaf_emitted, collected_of}
use Rattle.run_model.specs.Run.{PortRecord, port_records, is_of_out}
use Rattle.sparse_cycle.specs.Sparse.{leaf_of, no_leaf, is_due, given_by, given_among, emitted_among, records_at, has_records}
use Rattle.sparse_cycle.specs.Collect.{is_of_further, y_of, n_of, giver_in, Collected, and_given, collect_each, CanCollect}
use Rattle.quantity.specs.Bytes.{has_number}
use Rattle.sparse_cycle.specs.Collect.{givers_among, CollectsAtOnce, DueCanCollect, GiversGave}

at-true : (t : ℕ) (o : Option ℕ) → is_at t o ≡ true → o ≡ Some t
at-true t None e = absurd (true≢false (sym e))
at-true t (Some n) e = ap Some (eqb-true n t e)

module _ (t : ℕ) (all : List LeafState) where
  gives : LeafState → LeafState
  gives s = leaf_emitted t s

  abbrev at_once : List ℕ → List LeafState → Collected
  at_once ls st =
      record { y = y_of (given_among t all ls); n = n_of (given_among t all ls); givers = givers_among t all ls; leaf_states = emitted_among t st ls }

  one-at-once : (l : ℕ) (ls : List ℕ) (st : List LeafState) → leaf_of st l ≡ leaf_of all l
      → collect_each t ls (set st l (leaf_emitted t (leaf_of st l))) ≡ at_once ls (set st l (leaf_emitted t (leaf_of st l)))
      → collect_each t (l ∷ ls) st ≡ at_once (l ∷ ls) st
  one-at-once l ls st same rest =
      (λ i. and_given l (collected_of t (same i)) (rest i))
      ∙ (λ i. record {
        y = sym (filter-append is_of_out (given_by t all l) (given_among t all ls)) i;
        n = sym (filter-append is_of_further (given_by t all l) (given_among t all ls)) i;
        givers = givers_among t all (l ∷ ls);
        leaf_states = emitted_among t st (l ∷ ls);
      })

  abbrev Agree : ℕ → List LeafState → Type 0
  Agree k st = (j : ℕ) → k ≤ j → leaf_of st j ≡ leaf_of all j

  agree-set : (k : ℕ) (st : List LeafState) (x : LeafState) → Agree k st → Agree (k + 1) (set st k x)
  agree-set k st x same j le = get_or-set_other st k j x no_leaf (λ e. omega (arith, e, le)) ∙ same j (omega (arith, le))

  agree-on : (k : ℕ) (st : List LeafState) → Agree k st → Agree (k + 1) st
  agree-on k st same j le = same j (omega (arith, le))

  step-at-once : (k : ℕ) (ls : List ℕ) (st : List LeafState) (b : Bool) → Agree k st
      → ((s : List LeafState) → Agree (k + 1) s → collect_each t ls s ≡ at_once ls s)
      → collect_each t (cond b (k ∷ ls) ls) st ≡ at_once (cond b (k ∷ ls) ls) st
  step-at-once k ls st true same on =
      one-at-once k ls st (same k (omega arith)) (on (set st k (leaf_emitted t (leaf_of st k))) (agree-set k st (leaf_emitted t (leaf_of st k)) same))
  step-at-once k ls st false same on = on st (agree-on k st same)

  from-at-once : (k n : ℕ) (st : List LeafState) → Agree k st → collect_each t (filter (is_due t all) (range_with_len k n)) st ≡ at_once (filter (is_due t all) (range_with_len k n)) st
  from-at-once k zero st same = refl
  from-at-once k (suc n) st same =
      step-at-once k (filter (is_due t all) (range_with_len (k + 1) n)) st (is_due t all k) same (λ s agree. from-at-once (k + 1) n s agree)

  step-can : (k : ℕ) (ls : List ℕ) (st : List LeafState) (b : Bool) → is_due t all k ≡ b → Agree k st
      → ((s : List LeafState) → Agree (k + 1) s → CanCollect t ls s) → CanCollect t (cond b (k ∷ ls) ls) st
  step-can k ls st true is same on =
      (ap leaf_next (same k (omega arith)) ∙ at-true t (leaf_next (leaf_of all k)) is, on (set st k (leaf_emitted t (leaf_of st k))) (agree-set k st (leaf_emitted t (leaf_of st k)) same))
  step-can k ls st false is same on = on st (agree-on k st same)

  from-can : (k n : ℕ) (st : List LeafState) → Agree k st → CanCollect t (filter (is_due t all) (range_with_len k n)) st
  from-can k zero st same = tt
  from-can k (suc n) st same =
      step-can k (filter (is_due t all) (range_with_len (k + 1) n)) st (is_due t all k) refl same (λ s agree. from-can (k + 1) n s agree)

pub collects-at-once : CollectsAtOnce
collects-at-once t states = from-at-once t states 0 (length states) states (λ j le. refl)

pub due-can-collect : DueCanCollect
due-can-collect t states = from-can t states 0 (length states) states (λ j le. refl)

-- ---- who gave

none-at : (k l : ℕ) → eqb k l ≡ false → (bag : Bag) → records_at l (port_records (k, bag)) ≡ []
none-at k l ne [] = refl
none-at k l ne (o ∷ os) =
    let rest = records_at l (port_records (k, os)) in
    ap (λ b. cond b (record { leaf = k; port = o.0.0; value = o.1 } ∷ rest) rest) ne ∙ none-at k l ne os

or-false : (b : Bool) → (b || false) ≡ b
or-false true = refl
or-false false = refl

has-append : (a b : List PortRecord) → has_records (a ++ b) ≡ (has_records a || has_records b)
has-append [] b = refl
has-append (r ∷ rs) b = refl

one-gave : (k l : ℕ) (bag : Bag) → has_number (giver_in k bag) l ≡ has_records (records_at l (port_records (k, bag)))
one-gave k l [] = refl
one-gave k l (o ∷ os) = or-false (eqb k l) ∙ by (eqb k l) refl
  where
    rest : List PortRecord
    rest = records_at l (port_records (k, os))

    by : (b : Bool) → eqb k l ≡ b → b ≡ has_records (cond b (record { leaf = k; port = o.0.0; value = o.1 } ∷ records_at l (port_records (k, os))) (records_at l (port_records (k, os))))
    by true e = refl
    by false e = sym (ap has_records (none-at k l e os))

among-append : (a b : List ℕ) (l : ℕ) → has_number (a ++ b) l ≡ (has_number a l || has_number b l)
among-append [] b l = refl
among-append (x ∷ xs) b l = ap (λ r. eqb x l || r) (among-append xs b l) ∙ or-assoc (eqb x l) (has_number xs l) (has_number b l)
  where
    or-assoc : (x y z : Bool) → (x || (y || z)) ≡ ((x || y) || z)
    or-assoc true y z = refl
    or-assoc false y z = refl

pub givers-gave : GiversGave
givers-gave t l states [] = refl
givers-gave t l states (k ∷ ls) =
    among-append (giver_in k (collected_of t (leaf_of states k))) (givers_among t states ls) l
    ∙ (λ i. one-gave k l (collected_of t (leaf_of states k)) i || givers-gave t l states ls i)
    ∙ sym (has-append (records_at l (given_by t states k)) (records_at l (given_among t states ls)))
    ∙ ap has_records (sym (filter-append (λ (r : PortRecord). eqb r.leaf l) (given_by t states k) (given_among t states ls)))
