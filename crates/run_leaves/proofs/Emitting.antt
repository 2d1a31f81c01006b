-- A cell that is due gives at least one value.
use Rattle.std.proofs.Common.{◌≡◌, ◌≢◌, ℕ, ◌+◌, ◌≤◌, min, Bool, true, false, true≢false, eqb, eqb-true, eq-eqb, Option, Some, None, List, [], ◌∷◌, ◌++◌, length, refl, sym, ◌∙◌, ap, arith, length-append}
use Rattle.std.specs.Prelude.{if◌then◌else◌, slice_set}
use Rattle.std.specs.List.{flat_map, enumerate_from}
use Rattle.std.proofs.lemmas.List.{length-map, set-get_or}
use Rattle.atomic_face.specs.Held.{Held}
use Rattle.atomic_face.specs.Classes.{Bag, is_at}
use Rattle.atomic_face.specs.Moves.{next_of_box, output_of_box}
use Rattle.quantity.specs.Times.{earlier}
use Rattle.run_model.specs.CellStep.{PortState, CellState, first_time, next_of_ports, cell_next, cell_emitted, port_emitted, port_output, cell_output}
use Rattle.run_model.specs.Cycle.{LeafState, box_state, leaf_emitted, collected_of}
use Rattle.sparse_cycle.specs.Sparse.{leaf_of}
use Rattle.run_leaves.specs.Seated.{Seated}
use Rattle.run_leaves.specs.Moving.{with_seated_state}
use Rattle.run_leaves.proofs.Places.{none-some, some-is}

-- the least of two times is one of them
least-is : (P : Type 0) (a b : Option ℕ) (t : ℕ) → earlier a b ≡ Some t → (a ≡ Some t → P) → (b ≡ Some t → P) → P
least-is P None b t e left right = right e
least-is P (Some m) None t e left right = left e
least-is P (Some m) (Some n) t e left right = by (eqb m t) refl
  where
    low : min m n ≡ t
    low = some-is (min m n) t e

    by : (b : Bool) → eqb m t ≡ b → P
    by true is = left (ap Some (eqb-true m t is))
    by false is =
        let differ : m ≢ t = λ same. true≢false (sym (eq-eqb m t same) ∙ is) in
        let other : n ≡ t = omega (arith, low, differ) in
        right (ap Some other)

at-now : (t : ℕ) (o : Option ℕ) → o ≡ Some t → is_at t o ≡ true
at-now t None e = absurd (none-some e)
at-now t (Some n) e = eq-eqb n t (some-is n t e)

first-gives : (t k : ℕ) (p : PortState) → first_time p.pairs ≡ Some t → length (port_output t (k, p)) ≡ 1
first-gives t k p e = ap (λ b. length (one b)) (at-now t (first_time p.pairs) e)
  where
    one : Bool → Bag
    one b = if b then (record { 0 = k }, (port_emitted t p).emitted) ∷ [] else []

ports-give : (t k : ℕ) (ps : List PortState) → next_of_ports ps ≡ Some t → 1 ≤ length (flat_map (port_output t) (enumerate_from k ps))
ports-give t k [] e = absurd (none-some e)
ports-give t k (p ∷ ps) e =
    let long = length-append (port_output t (k, p)) (flat_map (port_output t) (enumerate_from (k + 1) ps)) in
    least-is (1 ≤ length (port_output t (k, p) ++ flat_map (port_output t) (enumerate_from (k + 1) ps))) (first_time p.pairs) (next_of_ports ps) t e
    (λ left. let one = first-gives t k p left in omega (arith, long, one))
    (λ right. let more = ports-give t (k + 1) ps right in omega (arith, long, more))

pub due-gives : (t : ℕ) (c : CellState) → cell_next c ≡ Some t → 1 ≤ length (cell_output t c)
due-gives t c e = ports-give t 0 c.ports e

-- a cell keeps its ports where it gives
pub emitted-port : (t : ℕ) (c : CellState) → 1 ≤ length c.ports → 1 ≤ length (cell_emitted t c).ports
emitted-port t c le = let long = length-map c.ports (port_emitted t) in omega (arith, le, long)

-- what a box gives that is due
pub box-collected : (t : ℕ) (b : Held) → next_of_box b ≡ Some t → collected_of t (box_state b) ≡ output_of_box b
box-collected t b e = ap (λ x. if x then output_of_box b else []) (at-now t (next_of_box b) e)

-- a box that gives stands as before
pub box-gives : (s : Seated) (l t : ℕ) (b : Held) → leaf_of s.states l ≡ box_state b → s ≡ with_seated_state s l (leaf_emitted t (leaf_of s.states l))
box-gives s l t b is =
    let same : leaf_emitted t (leaf_of s.states l) ≡ leaf_of s.states l = ap (leaf_emitted t) is ∙ sym is in
    let states : slice_set s.states l (leaf_of s.states l) ≡ s.states = set-get_or s.states l _ in
    sym (ap (with_seated_state s l) same ∙ ap (λ (ss : List LeafState). record s { states = ss }) states)
