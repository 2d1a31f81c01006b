-- A leaf that isn't due at the next instant gives nothing and stays as it is.
use Rattle.std.proofs.Common.{◌≡◌, ℕ, zero, suc, ◌+◌, min, false, true≢false, eq-eqb, ne_eqb, Option, Some, None, List, [], ◌∷◌, ◌++◌, map, refl, sym, ◌∙◌, ap, arith}
use Rattle.std.specs.Prelude.{if◌then◌else◌}
use Rattle.std.specs.List.{flat_map, enumerate_from}
use Rattle.atomic_face.specs.Classes.{is_at}
use Rattle.atomic_face.specs.Moves.{output_of_box}
use Rattle.quantity.specs.Times.{earlier}
use Rattle.run_model.specs.CellStep.{PortState, first_time, first_emitted, next_of_ports, port_emitted, port_output}
use Rattle.run_model.specs.Cycle.{LeafState, box_state, cell_state, leaf_next, leaf_emitted, collected_of, next_of_all}
use Rattle.run_model.specs.Waiting.{IsNotBefore}
use Rattle.run_model.specs.Run.{RunState, first_event, next_instant}
use Rattle.sparse_cycle.specs.Sparse.{leaf_of}

-- ---- least times

parts : (t : ℕ) (a b : Option ℕ) → IsNotBefore t (earlier a b) → IsNotBefore t a × IsNotBefore t b
parts t None b h = (tt, h)
parts t (Some m) None h = (h, tt)
parts t (Some m) (Some n) h = (omega arith, omega arith)

quiet-left : (t : ℕ) (a b : Option ℕ) → IsNotBefore t (earlier a b) → is_at t (earlier a b) ≡ false → is_at t a ≡ false
quiet-left t None b h q = refl
quiet-left t (Some m) None h q = q
quiet-left t (Some m) (Some n) h q = ne_eqb m t (λ e. true≢false (sym (eq-eqb (min m n) t (omega arith)) ∙ q))

quiet-right : (t : ℕ) (a b : Option ℕ) → IsNotBefore t (earlier a b) → is_at t (earlier a b) ≡ false → is_at t b ≡ false
quiet-right t None b h q = q
quiet-right t (Some m) None h q = refl
quiet-right t (Some m) (Some n) h q = ne_eqb n t (λ e. true≢false (sym (eq-eqb (min m n) t (omega arith)) ∙ q))

least-left : (t : ℕ) (a b : Option ℕ) → earlier a b ≡ Some t → IsNotBefore t a
least-left t None b e = tt
least-left t (Some m) None e = let is : m ≡ t = cc in omega arith
least-left t (Some m) (Some n) e = let is : min m n ≡ t = cc in omega arith

-- ---- ports

quiet-ports : (t : ℕ) (ps : List PortState) → IsNotBefore t (next_of_ports ps) → is_at t (next_of_ports ps) ≡ false → map (port_emitted t) ps ≡ ps
quiet-ports t [] h q = refl
quiet-ports t (p ∷ ps) h q =
    let here = quiet-left t (first_time p.pairs) (next_of_ports ps) h q in
    let rest = quiet-ports t ps (parts t (first_time p.pairs) (next_of_ports ps) h).1 (quiet-right t (first_time p.pairs) (next_of_ports ps) h q) in
    λ i. (if here i then first_emitted p.computed p.pairs else p) ∷ rest i

quiet-outputs : (t k : ℕ) (ps : List PortState) → IsNotBefore t (next_of_ports ps) → is_at t (next_of_ports ps) ≡ false → flat_map (port_output t) (enumerate_from k ps) ≡ []
quiet-outputs t k [] h q = refl
quiet-outputs t k (p ∷ ps) h q =
    let here = quiet-left t (first_time p.pairs) (next_of_ports ps) h q in
    let rest = quiet-outputs t (k + 1) ps (parts t (first_time p.pairs) (next_of_ports ps) h).1 (quiet-right t (first_time p.pairs) (next_of_ports ps) h q) in
    λ i. (if here i then (record { 0 = k }, (port_emitted t p).emitted) ∷ [] else []) ++ rest i

-- ---- leaves

pub quiet-emitted : (t : ℕ) (s : LeafState) → IsNotBefore t (leaf_next s) → is_at t (leaf_next s) ≡ false → leaf_emitted t s ≡ s
quiet-emitted t (box_state b) h q = refl
quiet-emitted t (cell_state c) h q = ap (λ ps. cell_state (record c { ports = ps })) (quiet-ports t c.ports h q)

pub quiet-collected : (t : ℕ) (s : LeafState) → IsNotBefore t (leaf_next s) → is_at t (leaf_next s) ≡ false → collected_of t s ≡ []
quiet-collected t (box_state b) h q = ap (λ x. if x then output_of_box b else []) q
quiet-collected t (cell_state c) h q = quiet-outputs t 0 c.ports h q

none-before : (t : ℕ) (ss : List LeafState) (l : ℕ) → IsNotBefore t (next_of_all ss) → IsNotBefore t (leaf_next (leaf_of ss l))
none-before t [] l h = tt
none-before t (s ∷ ss) zero h = (parts t (leaf_next s) (next_of_all ss) h).0
none-before t (s ∷ ss) (suc l) h = none-before t ss l (parts t (leaf_next s) (next_of_all ss) h).1

-- no leaf waits for a time before the next instant
pub waits-from : (t : ℕ) (s : RunState) → next_instant s ≡ Some t → (l : ℕ) → IsNotBefore t (leaf_next (leaf_of s.leaf_states l))
waits-from t s e l = none-before t s.leaf_states l (least-left t (next_of_all s.leaf_states) (first_event s.events) e)
