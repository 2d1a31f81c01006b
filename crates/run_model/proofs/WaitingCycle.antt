-- What waits after a cycle isn't before it.
use Rattle.std.proofs.Common.{◌≡◌, ℕ, ◌+◌, ◌<◌, ◌≤◌, Bool, true, false, cond, Option, Some, None, List, [], ◌∷◌, map, get_or, refl, sym, ap, subst, arith}
use Rattle.std.specs.Prelude.{Ok, Err, IfOk, IfSome, ⊤, nat_lt, nat_le, not, ◌==◌, ℤ, slice_get, unwrap_or}
use Rattle.std.specs.List.{All, filter}
use Rattle.std.proofs.lemmas.List.Elements.{All-nil, All-cons, All-head, All-tail, All-map, All-weaker}
use Rattle.std.proofs.lemmas.Bool.Decides.{nat_tests}
use Rattle.quantity.specs.declared.value.Value.TheVariants.{Undefined}
use Rattle.rule_tree.specs.declared.outcome.RuleStop.{RuleStop}
use Rattle.atomic_face.specs.Held.{Held}
use Rattle.atomic_face.specs.Classes.{Bag, moved_state}
use Rattle.model_tree.specs.Tree.{Tree, Leaf, atomic_leaf, cell_leaf, leaves}
use Rattle.run_model.specs.CellStep.{PortState, Stepped, initial_port, cell_emitted, cell_moved}
use Rattle.run_model.specs.Cycle.{LeafState, box_state, cell_state, initial_leaf, leaf_next, leaf_emitted, output_bags, bags, sight_of, box_moved, cell_result, leaf_moved, all_after, next_of_all}
use Rattle.run_model.specs.Run.{Event, Cycle, RunState, done, too_many, stop, ended, first_event, next_instant, cycles_at, at_top, state_after, unless_stop, cycled_at, next_at, next_cycle}
use Rattle.run_model.specs.Waiting.{RisesFrom, CellWaitsFrom, IsNotBefore, BoxWaitsFrom, LeafWaitsFrom, StandsFrom}
use Rattle.run_model.specs.Instants.{CycleStands, CyclesStand, StartStands, ResumedStands}
use Rattle.run_model.proofs.WaitingCells.{cell_emitted-waits, cell_moved-waits, least-parts, least-whole, ports-later, ports-from}
use Rattle.run_model.proofs.BoxLaws.{box_moved-waits, box-later, box-from, initial-waits}
use Rattle.run_model.proofs.LeavesKeep.{MovedHas, all_after-keeps, all_asked-keeps}
use Rattle.run_model.proofs.Steps.{moves_at, Cycled, is_cycled}

-- ---- a leaf that moves

box_moved-has : (t : ℕ) (b : Held) (o : Option (List ℤ)) → IfSome o (BoxWaitsFrom t b.kind) → MovedHas (LeafWaitsFrom t) (box_moved b o)
box_moved-has t b None h = tt
box_moved-has t b (Some s) h = h

cell_result-has : (t : ℕ) (r : Stepped) → IfOk r (CellWaitsFrom t) → MovedHas (LeafWaitsFrom t) (cell_result r)
cell_result-has t (Ok c) h = h
cell_result-has t (Err why) h = tt

leaf_moved-waits : (t : ℕ) (emitted : List LeafState) (woken : Bool) (bag : Bag) (l : Leaf) (s : LeafState) → LeafWaitsFrom t s → MovedHas (LeafWaitsFrom t) (leaf_moved t emitted woken bag l s)
leaf_moved-waits t emitted woken bag l (box_state b) h =
    box_moved-has t b (moved_state b.kind b.settings b.state t bag) (box_moved-waits b.kind b.settings b.state t bag h)
leaf_moved-waits t emitted woken bag (atomic_leaf name class settings) (cell_state c) h = tt
leaf_moved-waits t emitted woken bag (cell_leaf g first cell) (cell_state c) h =
    cell_result-has t (cell_moved g cell t woken (sight_of t emitted g first cell) bag (cell_emitted t c))
    (cell_moved-waits g cell t woken (sight_of t emitted g first cell) bag (cell_emitted t c) (cell_emitted-waits t c h))

moves-wait : (tree : Tree) (t : ℕ) (s : RunState) → All (LeafWaitsFrom t) s.leaf_states → All (LeafWaitsFrom t) (all_after s.leaf_states (moves_at tree t s))
moves-wait tree t s h =
    all_after-keeps (LeafWaitsFrom t) s.leaf_states (moves_at tree t s) h
    (all_asked-keeps t (map (leaf_emitted t) s.leaf_states) (output_bags t s.leaf_states) (LeafWaitsFrom t) (λ l. ⊤) (λ b. ⊤)
    (λ woken bag l x leaf good. leaf_moved-waits t (map (leaf_emitted t) s.leaf_states) woken bag l x)
    (leaves tree) s.leaf_states (bags tree (output_bags t s.leaf_states) (at_top tree t s.events)) (λ k d lt. tt) (λ k d lt. tt) h)

-- ---- nothing waits before the next instant

leaf-later : (low u : ℕ) (s : LeafState) → IsNotBefore u (leaf_next s) → LeafWaitsFrom low s → LeafWaitsFrom u s
leaf-later low u (box_state b) f h = box-later b.kind b.state low u f h
leaf-later low u (cell_state c) f h = ports-later low u c.ports f h

leaf-from : (low : ℕ) (s : LeafState) → LeafWaitsFrom low s → IsNotBefore low (leaf_next s)
leaf-from low (box_state b) h = box-from b.kind b.state low h
leaf-from low (cell_state c) h = ports-from low c.ports h

pub leaves-later : (low u : ℕ) (ss : List LeafState) → IsNotBefore u (next_of_all ss) → All (LeafWaitsFrom low) ss → All (LeafWaitsFrom u) ss
leaves-later low u [] f h = All-nil (LeafWaitsFrom u)
leaves-later low u (s ∷ ss) f h =
    let parts = least-parts u (leaf_next s) (next_of_all ss) f in
    All-cons (LeafWaitsFrom u) s ss (leaf-later low u s parts.0 (All-head (LeafWaitsFrom low) s ss h)) (leaves-later low u ss parts.1 (All-tail (LeafWaitsFrom low) s ss h))

leaves-from : (low : ℕ) (ss : List LeafState) → All (LeafWaitsFrom low) ss → IsNotBefore low (next_of_all ss)
leaves-from low [] h = tt
leaves-from low (s ∷ ss) h =
    least-whole low (leaf_next s) (next_of_all ss) (leaf-from low s (All-head (LeafWaitsFrom low) s ss h)) (leaves-from low ss (All-tail (LeafWaitsFrom low) s ss h))

abbrev EventFrom : ℕ → Event → Type 0
EventFrom low e = low ≤ e.time

pub events-later : (u : ℕ) (es : List Event) → IsNotBefore u (first_event es) → All (EventFrom u) es
events-later u [] f = All-nil (EventFrom u)
events-later u (e ∷ es) f =
    let parts = least-parts u (Some e.time) (first_event es) f in All-cons (EventFrom u) e es parts.0 (events-later u es parts.1)

events-from : (low : ℕ) (es : List Event) → All (EventFrom low) es → IsNotBefore low (first_event es)
events-from low [] h = tt
events-from low (e ∷ es) h =
    least-whole low (Some e.time) (first_event es) (All-head (EventFrom low) e es h) (events-from low es (All-tail (EventFrom low) e es h))

pub next-from : (limit low : ℕ) (s : RunState) → StandsFrom limit low s → IsNotBefore low (next_instant s)
next-from limit low s h =
    least-whole low (next_of_all s.leaf_states) (first_event s.events) (leaves-from low s.leaf_states h.leaves) (events-from low s.events h.events)

-- ---- one cycle

-- events of this instant are taken
left-later : (t : ℕ) (es : List Event) → All (EventFrom t) es → All (λ (e : Event). t < e.time) (filter (λ (e : Event). not (e.time == t)) es)
left-later t [] h = All-nil (λ (e : Event). t < e.time)
left-later t (e ∷ es) h = kept (e.time == t) refl (left-later t es (All-tail (EventFrom t) e es h))
  where
    kept : (b : Bool) → (e.time == t) ≡ b → All (λ (e : Event). t < e.time) (filter (λ (e : Event). not (e.time == t)) es) → All (λ (e : Event). t < e.time) (cond (not b) (e ∷ filter (λ (e : Event). not (e.time == t)) es) (filter (λ (e : Event). not (e.time == t)) es))
    kept true is rest = rest
    kept false is rest =
        let from : t ≤ e.time = All-head (EventFrom t) e es h in
        let later : t < e.time = grind (arith, nat_tests) in
        All-cons (λ (e : Event). t < e.time) e (filter (λ (e : Event). not (e.time == t)) es) later rest

counted-few : (limit t : ℕ) (s : RunState) → cycles_at t s < limit → cycles_at t s + 1 ≤ limit
counted-few limit t s h = omega (arith, h)

cycled-stands : (tree : Tree) (end limit low : ℕ) (s n : RunState) (c : Cycle) (t : ℕ) → StandsFrom limit low s → Cycled tree end limit s n c t → CycleStands end limit low c n
cycled-stands tree end limit low s n c t h is =
    let at : c.time ≡ t = ap (λ (d : Cycle). d.time) is.cycle in
    let within = is.within in
    let next : IsNotBefore t (next_instant s) = subst (IsNotBefore t) (sym is.instant) (omega arith) in
    let from : low ≤ t = subst (IsNotBefore low) is.instant (next-from limit low s h) in
    let parts = least-parts t (next_of_all s.leaf_states) (first_event s.events) next in
    let taken = left-later t s.events (events-later t s.events parts.1) in
    let stands : StandsFrom limit t (state_after t s (moves_at tree t s)) = record {
      leaves = moves-wait tree t s (leaves-later low t s.leaf_states parts.0 h.leaves);
      events = All-weaker (λ (e : Event). t < e.time) (EventFrom t) (λ e lt. omega (arith, lt)) (state_after t s (moves_at tree t s)).events taken;
      last = (omega arith, counted-few limit t s is.few);
    } in
    let after : (m : RunState) → n ≡ m → StandsFrom limit t m → StandsFrom limit t n = λ m e. subst (StandsFrom limit t) (sym e) in
    record {
      from = omega (arith, at, from);
      within = omega (arith, at, within);
      stands = subst (λ u. StandsFrom limit u n) (sym at) (subst (StandsFrom limit t) (sym is.next) stands);
      taken = subst (λ u. All (λ (e : Event). u < e.time) n.events) (sym at) (subst (λ (m : RunState). All (λ (e : Event). t < e.time) m.events) (sym is.next) taken);
    }

pub cycles-stand : CyclesStand
cycles-stand tree end limit low s n c h e = let is = is_cycled tree end limit s n c e in cycled-stands tree end limit low s n c is.0 h is.1

-- ---- where a run begins

initial_leaf-waits : (l : Leaf) → LeafWaitsFrom 0 (initial_leaf l)
initial_leaf-waits (atomic_leaf name class settings) = initial-waits class settings
initial_leaf-waits (cell_leaf g first cell) =
    All-map (λ (p : PortState). RisesFrom 0 p.pairs) initial_port (unwrap_or (slice_get g.initial cell) Undefined ∷ g.port_values) (λ k d lt. (omega arith, tt))

pub start-stands : StartStands
start-stands tree events limit = record {
  leaves = All-map (LeafWaitsFrom 0) initial_leaf (leaves tree) (λ k d lt. initial_leaf-waits (get_or (leaves tree) k d));
  events = λ k d lt. omega arith;
  last = tt;
}

pub resumed-stands : ResumedStands
resumed-stands time limit states events h = record { leaves = h; events = filtered events; last = tt }
  where
    filtered : (es : List Event) → All (EventFrom (time + 1)) (filter (λ (e : Event). nat_lt time e.time) es)
    filtered [] = All-nil (EventFrom (time + 1))
    filtered (e ∷ es) = kept (nat_lt time e.time) refl (filtered es)
      where
        kept : (b : Bool) → nat_lt time e.time ≡ b → All (EventFrom (time + 1)) (filter (λ (e : Event). nat_lt time e.time) es) → All (EventFrom (time + 1)) (cond b (e ∷ filter (λ (e : Event). nat_lt time e.time) es) (filter (λ (e : Event). nat_lt time e.time) es))
        kept true is rest = let later : time + 1 ≤ e.time = grind (arith, nat_tests) in All-cons (EventFrom (time + 1)) e _ later rest
        kept false is rest = rest

-- ---- where it is done

-- nothing is before the end
pub is_done : (tree : Tree) (end limit : ℕ) (s : RunState) → next_cycle tree end limit s ≡ ended done → IsNotBefore (end + 1) (next_instant s)
unfolding next_cycle
is_done tree end limit s e = by_instant (next_instant s) e
  where
    by_stop : (t : ℕ) (o : Option (ℕ × RuleStop)) (d : Cycle) (m : RunState) → unless_stop t o d m ≡ ended done → ⊥
    by_stop t None d m e = cc
    by_stop t (Some p) d m e = let f : stop p.0 t p.1 ≡ done = cc in cc

    by_limit : (t : ℕ) (b : Bool) → cond b (ended (too_many t)) (cycled_at tree t s) ≡ ended done → ⊥
    by_limit t true e = let f : too_many t ≡ done = cc in cc
    by_limit t false e = by_stop t _ _ _ e

    by_end : (t : ℕ) (b : Bool) → nat_lt end t ≡ b → cond b (ended done) (cond (nat_le limit (cycles_at t s)) (ended (too_many t)) (cycled_at tree t s)) ≡ ended done → end + 1 ≤ t
    by_end t true is e = grind (arith, nat_tests)
    by_end t false is e = absurd (by_limit t (nat_le limit (cycles_at t s)) e)

    by_instant : (o : Option ℕ) → next_at tree end limit s o ≡ ended done → IsNotBefore (end + 1) o
    by_instant None e = tt
    by_instant (Some t) e = by_end t (nat_lt end t) refl e
