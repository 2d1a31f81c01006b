-- What waits in a cell stays later.
use Rattle.std.proofs.Common.{◌≡◌, ℕ, ◌+◌, ◌≤◌, Bool, true, false, cond, Option, Some, None, List, [], ◌∷◌, refl, subst, arith}
use Rattle.std.specs.Prelude.{Ok, Err, IfOk, ⊤, if◌then◌else◌, nat_lt, ◌==◌}
use Rattle.std.specs.List.{All}
use Rattle.std.proofs.lemmas.List.Elements.{All-nil, All-cons, All-head, All-tail, All-map, All-weaker}
use Rattle.std.proofs.lemmas.Bool.Decides.{nat_tests}
use Rattle.quantity.specs.declared.value.Value.{Value}
use Rattle.quantity.specs.Arithmetic.{same_value}
use Rattle.quantity.specs.Delay.{put_pair, delay_list_after}
use Rattle.rule_tree.specs.Meaning.{Sight}
use Rattle.rule_tree.specs.Chosen.{Chosen, outcome_of_rules}
use Rattle.atomic_face.specs.Classes.{Bag, is_at}
use Rattle.quantity.specs.declared.delay.DelayKind.{DelayKind}
use Rattle.quantity.specs.declared.delay.DelayKind.TheVariants.{Transport, Inertial}
use Rattle.model_tree.specs.Tree.{Group}
use Rattle.quantity.specs.Times.{earlier}
use Rattle.run_model.specs.CellStep.{PortState, CellState, first_time, next_of_ports, first_emitted, port_emitted, cell_emitted, port_took, took, and_took, cell_moved}
use Rattle.run_model.specs.Waiting.{RisesFrom, CellWaitsFrom, IsNotBefore}
use Rattle.run_model.proofs.CellKeeps.{took-keeps, cell_moved-keeps}

abbrev Pairs : Type 0
Pairs = List (ℕ × Value)

abbrev PortWaitsFrom : ℕ → PortState → Type 0
PortWaitsFrom low p = RisesFrom low p.pairs

pub rising_lower : (low high : ℕ) (ps : Pairs) → low ≤ high → RisesFrom high ps → RisesFrom low ps
rising_lower low high [] le h = tt
rising_lower low high (p ∷ ps) le h = (omega (arith, h.0, le), h.1)

put_rising : (low at : ℕ) (v : Value) (ps : Pairs) → low ≤ at → RisesFrom low ps → RisesFrom low (put_pair at v ps)
put_rising low at v [] le h = (le, tt)
put_rising low at v (p ∷ ps) le h = test (nat_lt p.0 at) refl (put_rising (p.0 + 1) at v ps)
  where
    same : (b : Bool) → (p.0 == at) ≡ b → nat_lt p.0 at ≡ false → RisesFrom low (cond b ((at, v) ∷ ps) ((at, v) ∷ p ∷ ps))
    same true e f = let is : p.0 ≡ at = grind (arith, nat_tests) in (le, subst (λ n. RisesFrom (n + 1) ps) is h.1)
    same false e f = let later : at + 1 ≤ p.0 = grind (arith, nat_tests) in (le, (later, h.1))

    test : (b : Bool) → nat_lt p.0 at ≡ b → (p.0 + 1 ≤ at → RisesFrom (p.0 + 1) ps → RisesFrom (p.0 + 1) (put_pair at v ps)) → RisesFrom low (cond b (p ∷ put_pair at v ps) (cond (p.0 == at) ((at, v) ∷ ps) ((at, v) ∷ p ∷ ps)))
    test true e rest = let lt : p.0 + 1 ≤ at = grind (arith, nat_tests) in (h.0, rest lt h.1)
    test false e rest = same (p.0 == at) refl e

delayed_rising : (kind : DelayKind) (low at : ℕ) (v : Value) (ps : Pairs) → low ≤ at → RisesFrom low ps → RisesFrom low (delay_list_after kind ps at v)
delayed_rising Transport low at v ps le h = put_rising low at v ps le h
delayed_rising Inertial low at v ps le h = (le, tt)

port_took-waits : (kind : DelayKind) (low at : ℕ) (v : Value) (p : PortState) → low ≤ at → PortWaitsFrom low p → PortWaitsFrom low (port_took kind at v p)
port_took-waits kind low at v p le h = test (same_value v p.computed)
  where
    test : (b : Bool) → PortWaitsFrom low (if b then p else record p { computed = v; pairs = delay_list_after kind p.pairs at v })
    test true = h
    test false = delayed_rising kind low at v p.pairs le h

took-waits : (kind : DelayKind) (low at : ℕ) (gs : List (ℕ × Value)) (ps : List PortState) → low ≤ at → All (PortWaitsFrom low) ps → All (PortWaitsFrom low) (took kind at gs ps)
took-waits kind low at gs ps le h = took-keeps (PortWaitsFrom low) (λ v. ⊤) kind at (λ v p good. port_took-waits kind low at v p le) gs ps (λ k d lt. tt) h

port_emitted-waits : (t : ℕ) (p : PortState) → PortWaitsFrom t p → PortWaitsFrom t (port_emitted t p)
port_emitted-waits t p h = test (is_at t (first_time p.pairs)) p.pairs h
  where
    first : (ps : Pairs) → RisesFrom t ps → RisesFrom t (first_emitted p.computed ps).pairs
    first [] h = tt
    first (q ∷ ps) h = rising_lower t (q.0 + 1) ps (omega (arith, h.0)) h.1

    test : (b : Bool) (ps : Pairs) → RisesFrom t p.pairs → PortWaitsFrom t (if b then first_emitted p.computed p.pairs else p)
    test true ps h = first p.pairs h
    test false ps h = h

pub cell_emitted-waits : (t : ℕ) (c : CellState) → CellWaitsFrom t c → CellWaitsFrom t (cell_emitted t c)
cell_emitted-waits t c h =
    All-map (PortWaitsFrom t) (port_emitted t) c.ports (All-weaker (PortWaitsFrom t) (λ p. PortWaitsFrom t (port_emitted t p)) (port_emitted-waits t) c.ports h)

and_took-waits : (kind : DelayKind) (t : ℕ) (c : CellState) (r : Chosen) → CellWaitsFrom t c → IfOk (and_took kind t c r) (CellWaitsFrom t)
and_took-waits kind t c (Ok given) h = took-waits kind t (t + given.delay) given.values c.ports (omega arith) h
and_took-waits kind t c (Err stop) h = tt

pub cell_moved-waits : (g : Group) (cell t : ℕ) (woken : Bool) (s : Sight) (bag : Bag) (c : CellState) → CellWaitsFrom t c → IfOk (cell_moved g cell t woken s bag c) (CellWaitsFrom t)
cell_moved-waits g cell t woken s bag c h =
    cell_moved-keeps g cell t (CellWaitsFrom t) (λ v. ⊤) (λ s. ⊤) (λ rules. ⊤) (λ s v see good. tt) (λ n. tt)
    (λ s rules d see r. and_took-waits g.settings.kind t d (outcome_of_rules rules (record s { variables = d.variables })))
    (λ v d good. took-waits g.settings.kind t (t + g.settings.default_delay) ((0, v) ∷ []) d.ports (omega arith)) woken s bag c tt (λ k d lt. tt) h

-- ---- next times

pub least-parts : (u : ℕ) (a b : Option ℕ) → IsNotBefore u (earlier a b) → IsNotBefore u a × IsNotBefore u b
least-parts u None b h = (tt, h)
least-parts u (Some m) None h = (h, tt)
least-parts u (Some m) (Some n) h = (omega (arith, h), omega (arith, h))

pub least-whole : (u : ℕ) (a b : Option ℕ) → IsNotBefore u a → IsNotBefore u b → IsNotBefore u (earlier a b)
least-whole u None b h k = k
least-whole u (Some m) None h k = h
least-whole u (Some m) (Some n) h k = omega (arith, h, k)

first_rising : (low u : ℕ) (ps : Pairs) → IsNotBefore u (first_time ps) → RisesFrom low ps → RisesFrom u ps
first_rising low u [] f h = tt
first_rising low u (p ∷ ps) f h = (f, h.1)

pub ports-later : (low u : ℕ) (ps : List PortState) → IsNotBefore u (next_of_ports ps) → All (PortWaitsFrom low) ps → All (PortWaitsFrom u) ps
ports-later low u [] f h = All-nil (PortWaitsFrom u)
ports-later low u (p ∷ ps) f h =
    let parts = least-parts u (first_time p.pairs) (next_of_ports ps) f in
    All-cons (PortWaitsFrom u) p ps (first_rising low u p.pairs parts.0 (All-head (PortWaitsFrom low) p ps h)) (ports-later low u ps parts.1 (All-tail (PortWaitsFrom low) p ps h))

first_from : (low : ℕ) (ps : Pairs) → RisesFrom low ps → IsNotBefore low (first_time ps)
first_from low [] h = tt
first_from low (p ∷ ps) h = h.0

pub ports-from : (low : ℕ) (ps : List PortState) → All (PortWaitsFrom low) ps → IsNotBefore low (next_of_ports ps)
ports-from low [] h = tt
ports-from low (p ∷ ps) h =
    least-whole low (first_time p.pairs) (next_of_ports ps) (first_from low p.pairs (All-head (PortWaitsFrom low) p ps h)) (ports-from low ps (All-tail (PortWaitsFrom low) p ps h))
