-- A cell that is due gives a value.
use Rattle.std.proofs.Common.{◌≡◌, ℕ, ◌+◌, ◌≤◌, min, Bool, true, false, cond, eq-eqb, eqb-true, true≢false, Option, Some, None, List, [], ◌∷◌, ◌++◌, length, refl, sym, ◌⊎◌, inl, inr, ⊎_elim, ◌≢◌, arith, length-append}
use Rattle.std.specs.Prelude.{if◌then◌else◌}
use Rattle.std.specs.List.{filter, flat_map, enumerate_from, range_with_len}
use Rattle.std.proofs.lemmas.List.{length-map}
use Rattle.std.proofs.lemmas.Bool.{cases_eq}
use Rattle.quantity.specs.declared.value.Value.{Value}
use Rattle.atomic_face.specs.Classes.{Bag, is_at}
use Rattle.atomic_face.specs.declared.class.PortNo.{PortNo}
use Rattle.quantity.specs.Times.{earlier}
use Rattle.run_model.specs.CellStep.{PortState, first_time, next_of_ports, port_emitted, port_output}
use Rattle.run_model.specs.Cycle.{LeafState, box_state, cell_state, leaf_next, collected_of}
use Rattle.run_model.specs.Run.{PortRecord, port_records}
use Rattle.sparse_cycle.specs.Sparse.{leaf_of, is_due, given_by}
use Rattle.sparse_cycle.specs.Woken.{is_cell, is_cell_at, DueCellsGive}

-- where the lesser of two times is at an instant, one of them is
either-at : (t : ℕ) (a b : Option ℕ) → is_at t (earlier a b) ≡ true → (is_at t a ≡ true) ⊎ (is_at t b ≡ true)
either-at t None b e = inr e
either-at t (Some m) None e = inl e
either-at t (Some m) (Some n) e = ⊎_elim
    (λ (same : m ≡ t). inl (eq-eqb m t same))
    (λ (ne : m ≢ t). let at : min m n ≡ t = eqb-true (min m n) t e in let same : n ≡ t = omega (arith, at, ne) in inr (eq-eqb n t same))
    (cases_eq m t)

one-given : (t k : ℕ) (p : PortState) (b : Bool) → b ≡ true → 1 ≤ length (let bag : Bag = if b then (record { 0 = k }, (port_emitted t p).emitted) ∷ [] else [] in bag)
one-given t k p true e = omega arith
one-given t k p false e = absurd (true≢false (sym e))

ports-give : (t k : ℕ) (ps : List PortState) → is_at t (next_of_ports ps) ≡ true → 1 ≤ length (flat_map (port_output t) (enumerate_from k ps))
ports-give t k [] e = absurd (true≢false (sym e))
ports-give t k (p ∷ ps) e =
    let joined = length-append (port_output t (k, p)) (flat_map (port_output t) (enumerate_from (k + 1) ps)) in
    ⊎_elim
    (λ (here : is_at t (first_time p.pairs) ≡ true). let one = one-given t k p (is_at t (first_time p.pairs)) here in omega (arith, joined, one))
    (λ (later : is_at t (next_of_ports ps) ≡ true). let one = ports-give t (k + 1) ps later in omega (arith, joined, one))
    (either-at t (first_time p.pairs) (next_of_ports ps) e)

leaf-gives : (t l : ℕ) (s : LeafState) → is_at t (leaf_next s) ≡ true → length (cond (is_cell s) (l ∷ []) []) ≤ length (port_records (l, collected_of t s))
leaf-gives t l (box_state b) e = omega arith
leaf-gives t l (cell_state c) e =
    let one = ports-give t 0 c.ports e in
    let mk : PortNo × Value → PortRecord = λ o. record { leaf = l; port = o.0.0; value = o.1 } in
    let same = length-map (collected_of t (cell_state c)) mk in
    omega (arith, one, same)

cells-by : (b : Bool) (l : ℕ) (ls : List ℕ) (one more : List PortRecord) → length (cond b (l ∷ []) []) ≤ length one → length ls ≤ length more → length (cond b (l ∷ ls) ls) ≤ length (one ++ more)
cells-by true l ls one more h k = let joined = length-append one more in omega (arith, joined, h, k)
cells-by false l ls one more h k = let joined = length-append one more in omega (arith, joined, h, k)

module _ (t : ℕ) (ss : List LeafState) where
  due-by : (b : Bool) (l : ℕ) (ls : List ℕ) → is_at t (leaf_next (leaf_of ss l)) ≡ b → length (filter (is_cell_at ss) ls) ≤ length (flat_map (given_by t ss) ls) → length (filter (is_cell_at ss) (cond b (l ∷ ls) ls)) ≤ length (flat_map (given_by t ss) (cond b (l ∷ ls) ls))
  due-by true l ls is h = cells-by (is_cell_at ss l) l (filter (is_cell_at ss) ls) (given_by t ss l) (flat_map (given_by t ss) ls) (leaf-gives t l (leaf_of ss l) is) h
  due-by false l ls is h = h

  cells-give : (xs : List ℕ) → length (filter (is_cell_at ss) (filter (is_due t ss) xs)) ≤ length (flat_map (given_by t ss) (filter (is_due t ss) xs))
  cells-give [] = omega arith
  cells-give (l ∷ xs) = due-by (is_due t ss l) l (filter (is_due t ss) xs) refl (cells-give xs)

pub due-cells-give : DueCellsGive
due-cells-give t s = cells-give t s.leaf_states (range_with_len 0 (length s.leaf_states))
