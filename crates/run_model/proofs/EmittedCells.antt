-- A cell that moves has emitted what it gave.
use Rattle.std.proofs.Common.{◌≡◌, ℕ, zero, suc, ◌+◌, ◌<◌, Bool, true, false, true≢false, cond, Option, Some, None, List, [], ◌∷◌, ◌++◌, map, refl, sym, ◌∙◌, ap, arith, min}
use Rattle.std.specs.Prelude.{Ok, Err, IfOk, IsSomeAnd, ⊤, if◌then◌else◌, ◌==◌, ◌||◌, slice_get, unwrap_or}
use Rattle.std.specs.List.{All, AllZip, flat_map, enumerate_from}
use Rattle.std.proofs.lemmas.List.Elements.{All-head, All-tail}
use Rattle.std.proofs.lemmas.Bool.Decides.{nat_tests}
use Rattle.quantity.specs.declared.value.Value.{Value}
use Rattle.quantity.specs.Arithmetic.{same_value}
use Rattle.rule_tree.specs.Meaning.{Sight, value_at}
use Rattle.rule_tree.specs.Chosen.{Chosen, outcome_of_rules}
use Rattle.atomic_face.specs.Classes.{Bag, is_at}
use Rattle.quantity.specs.declared.delay.DelayKind.{DelayKind}
use Rattle.model_tree.specs.Tree.{Group, Leaf, atomic_leaf, cell_leaf}
use Rattle.quantity.specs.Delay.{delay_list_after}
use Rattle.quantity.specs.Times.{earlier}
use Rattle.run_model.specs.CellStep.{PortState, CellState, Stepped, first_time, next_of_ports, cell_next, first_emitted, port_emitted, cell_emitted, port_output, cell_output, port_took, took_at, took, and_took, cell_moved}
use Rattle.run_model.specs.Cycle.{LeafState, box_state, cell_state, output_bags, sight_of, is_woken, has_values, Moved, stayed, moved, stopped, cell_result, leaf_moved, move_in_cycle, all_asked, first_stop, after, all_after}
use Rattle.run_model.specs.Waiting.{IsNotBefore, CellWaitsFrom, LeafWaitsFrom, RisesFrom}
use Rattle.run_model.specs.Fitting.{Fits}
use Rattle.run_model.specs.Emitted.{emitted_at, IsCell}
use Rattle.run_model.proofs.CellKeeps.{cell_moved-keeps}
use Rattle.run_model.proofs.WaitingCells.{ports-from}
use Rattle.run_model.proofs.FittingCycle.{TakesAt}

-- what stands first among the emitted values
abbrev first_of : List PortState → Value
first_of ps = value_at (map (λ (p : PortState). p.emitted) ps) 0

-- ---- taking a value emits nothing

port_took-emitted : (kind : DelayKind) (at : ℕ) (v : Value) (p : PortState) → (port_took kind at v p).emitted ≡ p.emitted
port_took-emitted kind at v p = test (same_value v p.computed)
  where
    test : (b : Bool) → (if b then p else record p { computed = v; pairs = delay_list_after kind p.pairs at v }).emitted ≡ p.emitted
    test true = refl
    test false = refl

took_at-first : (f : PortState → PortState) → ((p : PortState) → (f p).emitted ≡ p.emitted) → (port : ℕ) (ps : List PortState) → first_of (took_at port f ps) ≡ first_of ps
took_at-first f same port [] = refl
took_at-first f same zero (p ∷ ps) = same p
took_at-first f same (suc port) (p ∷ ps) = refl

took-first : (kind : DelayKind) (at : ℕ) (gs : List (ℕ × Value)) (ps : List PortState) → first_of (took kind at gs ps) ≡ first_of ps
took-first kind at [] ps = refl
took-first kind at (g ∷ gs) ps =
    took-first kind at gs (took_at g.0 (port_took kind at g.1) ps) ∙ took_at-first (port_took kind at g.1) (port_took-emitted kind at g.1) g.0 ps

abbrev HasFirst : Value → CellState → Type 0
HasFirst v c = first_of c.ports ≡ v

moved-first : (g : Group) (cell t : ℕ) (woken : Bool) (s : Sight) (bag : Bag) (v : Value) (c : CellState) → HasFirst v c → IfOk (cell_moved g cell t woken s bag c) (HasFirst v)
moved-first g cell t woken s bag v c h =
    cell_moved-keeps g cell t (HasFirst v) (λ v. ⊤) (λ s. ⊤) (λ rules. ⊤) (λ s w see good. tt) (λ n. tt)
    (λ s rules d see r k. taken (outcome_of_rules rules (record s { variables = d.variables })) d k)
    (λ w d good k. took-first g.settings.kind (t + g.settings.default_delay) ((0, w) ∷ []) d.ports ∙ k) woken s bag c tt (λ k d lt. tt) h
  where
    taken : (r : Chosen) (d : CellState) → HasFirst v d → IfOk (and_took g.settings.kind t d r) (HasFirst v)
    taken (Ok given) d k = took-first g.settings.kind (t + given.delay) given.values d.ports ∙ k
    taken (Err why) d k = tt

-- ---- what is given at the port out

-- the last value at the port out, or else this one
abbrev pub last_in : Bag → Value → Value
last_in [] v = v
last_in (o ∷ os) v = last_in os (if o.0.0 == 0 then o.1 else v)

last_in-append : (xs ys : Bag) (v : Value) → last_in (xs ++ ys) v ≡ last_in ys (last_in xs v)
last_in-append [] ys v = refl
last_in-append (o ∷ os) ys v = last_in-append os ys (if o.0.0 == 0 then o.1 else v)

further-ports : (t n : ℕ) (ps : List PortState) (v : Value) → 0 < n → last_in (flat_map (port_output t) (enumerate_from n ps)) v ≡ v
further-ports t n [] v some = refl
further-ports t n (p ∷ ps) v some =
    last_in-append (port_output t (n, p)) (flat_map (port_output t) (enumerate_from (n + 1) ps)) v
    ∙ further-ports t (n + 1) ps (last_in (port_output t (n, p)) v) (omega arith) ∙ one (is_at t (first_time p.pairs))
  where
    one : (b : Bool) → last_in (if b then (record { 0 = n }, (port_emitted t p).emitted) ∷ [] else []) v ≡ v
    one true = let test : (n == 0) ≡ false = grind (arith, nat_tests) in ap (λ b. cond b (port_emitted t p).emitted v) test
    one false = refl

output-first : (t : ℕ) (c : CellState) → last_in (cell_output t c) (first_of c.ports) ≡ first_of (cell_emitted t c).ports
output-first t c = go c.ports
  where
    go : (ps : List PortState) → last_in (flat_map (port_output t) (enumerate_from 0 ps)) (first_of ps) ≡ first_of (map (port_emitted t) ps)
    go [] = refl
    go (p ∷ ps) =
        last_in-append (port_output t (0, p)) (flat_map (port_output t) (enumerate_from 1 ps)) p.emitted
        ∙ further-ports t 1 ps (last_in (port_output t (0, p)) p.emitted) (omega arith) ∙ one (is_at t (first_time p.pairs))
      where
        one : (b : Bool) → last_in (if b then (record { 0 = 0 }, (if b then first_emitted p.computed p.pairs else p).emitted) ∷ [] else []) p.emitted ≡ (if b then first_emitted p.computed p.pairs else p).emitted
        one true = refl
        one false = refl

-- ---- a cell that stays gave nothing

not_due : (t : ℕ) (a b : Option ℕ) → IsNotBefore t b → is_at t (earlier a b) ≡ false → is_at t a ≡ false
not_due t None b h e = refl
not_due t (Some m) None h e = e
not_due t (Some m) (Some n) h e = test (m == t) refl
  where
    test : (b : Bool) → (m == t) ≡ b → b ≡ false
    test true is =
        let same : m ≡ t = grind (arith, nat_tests) in
        let at : min m n ≡ t = omega (arith, same, h) in
        let due : (min m n == t) ≡ true = grind (arith, nat_tests) in
        absurd (true≢false (sym due ∙ e))
    test false is = refl

stays-first : (t : ℕ) (ps : List PortState) → All (λ (p : PortState). RisesFrom t p.pairs) ps → is_at t (next_of_ports ps) ≡ false → first_of (map (port_emitted t) ps) ≡ first_of ps
stays-first t [] h e = refl
stays-first t (p ∷ ps) h e =
    let rest = ports-from t ps (All-tail (λ (p : PortState). RisesFrom t p.pairs) p ps h) in
    ap (λ b. (if b then first_emitted p.computed p.pairs else p).emitted) (not_due t (first_time p.pairs) (next_of_ports ps) rest e)

-- ---- one leaf of a cycle that doesn't stop

abbrev IsNotStopped : Moved → Type 0
IsNotStopped stayed = ⊤
IsNotStopped (moved s) = ⊤
IsNotStopped (stopped why) = ⊥

or-false : (a b : Bool) → (a || b) ≡ false → a ≡ false
or-false true b e = e
or-false false b e = refl

abbrev of_leaf : LeafState → Value
of_leaf s = emitted_at (s ∷ []) 0

cell-emits : (t : ℕ) (emitted : List LeafState) (gave : List Bag) (g : Group) (first cell : ℕ) (c : CellState) (bag : Bag) → CellWaitsFrom t c → IsNotStopped (move_in_cycle t emitted gave (cell_leaf g first cell) (cell_state c) bag) → of_leaf (after (cell_state c) (move_in_cycle t emitted gave (cell_leaf g first cell) (cell_state c) bag)) ≡ last_in (cell_output t c) (first_of c.ports)
cell-emits t emitted gave g first cell c bag h none = moves (is_at t (cell_next c) || is_woken gave (cell_leaf g first cell) || has_values bag) refl none
  where
    stepped : (r : Stepped) → IfOk r (HasFirst (first_of (cell_emitted t c).ports)) → IsNotStopped (cell_result r) → of_leaf (after (cell_state c) (cell_result r)) ≡ first_of (cell_emitted t c).ports
    stepped (Ok d) k n = k
    stepped (Err why) k n = absurd n

    moves : (b : Bool) → (is_at t (cell_next c) || is_woken gave (cell_leaf g first cell) || has_values bag) ≡ b → IsNotStopped (if b then leaf_moved t emitted (is_woken gave (cell_leaf g first cell)) bag (cell_leaf g first cell) (cell_state c) else stayed) → of_leaf (after (cell_state c) (if b then leaf_moved t emitted (is_woken gave (cell_leaf g first cell)) bag (cell_leaf g first cell) (cell_state c) else stayed)) ≡ last_in (cell_output t c) (first_of c.ports)
    moves true e n =
        stepped (cell_moved g cell t (is_woken gave (cell_leaf g first cell)) (sight_of t emitted g first cell) bag (cell_emitted t c))
        (moved-first g cell t (is_woken gave (cell_leaf g first cell)) (sight_of t emitted g first cell) bag (first_of (cell_emitted t c).ports) (cell_emitted t c) refl) n
        ∙ sym (output-first t c)
    moves false e n = sym (output-first t c ∙ stays-first t c.ports h (or-false (is_at t (cell_next c)) (is_woken gave (cell_leaf g first cell)) (or-false (is_at t (cell_next c) || is_woken gave (cell_leaf g first cell)) (has_values bag) e)))

not_stopped : (n : ℕ) (m : Moved) (ms : List Moved) → first_stop n (m ∷ ms) ≡ None → IsNotStopped m × (first_stop (n + 1) ms ≡ None)
not_stopped n stayed ms e = (tt, e)
not_stopped n (moved s) ms e = (tt, e)
not_stopped n (stopped why) ms e = absurd (cc)

pub leaf-emits : (t n : ℕ) (emitted : List LeafState) (gave : List Bag) (ls : List Leaf) (ss : List LeafState) (bags : List Bag) (k : ℕ) → AllZip Fits ls ss → AllZip TakesAt ls bags → All (LeafWaitsFrom t) ss → first_stop n (all_asked t emitted gave ls ss bags) ≡ None → IsSomeAnd (slice_get ls k) IsCell → emitted_at (all_after ss (all_asked t emitted gave ls ss bags)) k ≡ last_in (unwrap_or (slice_get (output_bags t ss) k) []) (emitted_at ss k)
leaf-emits t n emitted gave [] ss bags k fit take wait none cell = absurd cell
leaf-emits t n emitted gave (l ∷ ls) [] bags k fit take wait none cell = absurd fit
leaf-emits t n emitted gave (l ∷ ls) (s ∷ ss) [] k fit take wait none cell = absurd take
leaf-emits t n emitted gave (atomic_leaf name class settings ∷ ls) (s ∷ ss) (b ∷ bs) zero fit take wait none cell = absurd cell
leaf-emits t n emitted gave (cell_leaf g first place ∷ ls) (box_state x ∷ ss) (b ∷ bs) zero fit take wait none cell = absurd fit.0
leaf-emits t n emitted gave (cell_leaf g first place ∷ ls) (cell_state c ∷ ss) (b ∷ bs) zero fit take wait none cell =
    cell-emits t emitted gave g first place c b (All-head (LeafWaitsFrom t) (cell_state c) ss wait)
    (not_stopped n (move_in_cycle t emitted gave (cell_leaf g first place) (cell_state c) b) (all_asked t emitted gave ls ss bs) none).0
leaf-emits t n emitted gave (l ∷ ls) (s ∷ ss) (b ∷ bs) (suc k) fit take wait none cell =
    leaf-emits t (n + 1) emitted gave ls ss bs k fit.1 take.1 (All-tail (LeafWaitsFrom t) s ss wait)
    (not_stopped n (move_in_cycle t emitted gave l s b) (all_asked t emitted gave ls ss bs) none).1 cell
