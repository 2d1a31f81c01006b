-- How a cycle ends, from the walk of its touched leaves.
use Rattle.std.proofs.Common.{◌≡◌, ℕ, ◌*◌, ◌≤◌, Option, Some, None, List, length, Ok, Err, inr, refl, sym, ◌∙◌, ap, subst, arith}
use Rattle.std.specs.Prelude.{OnOk}
use Rattle.std.specs.List.{sum_by}
use Rattle.std.specs.declared.result.Result.{Result}
use Rattle.std.proofs.lemmas.List.Sums.{sum_by-le}
use Rattle.rule_tree.specs.declared.outcome.RuleStop.{RuleStop}
use Rattle.event_list.specs.Events.{Event}
use Rattle.model_tree.specs.Tree.{Tree}
use Rattle.run_model.specs.Cycle.{LeafState}
use Rattle.run_model.specs.Run.{RunState, next_instant}
use Rattle.run_model.specs.declared.stop.Stop.{Stop}
use Rattle.run_model.specs.declared.stop.Stop.TheVariants.{Memory}
use Rattle.run_model.specs.Stopping.{StopsCycle}
use Rattle.text_forms.specs.declared.records.Records.{Records}
use Rattle.time_queue.specs.Waiting.{without}
use Rattle.sparse_cycle.specs.Sparse.{Parts, cycle_parts, first_stop_among, moved_among, after_among}
use Rattle.sparse_cycle.specs.Walk.{Stand, Walked, leaf_walk, waits, at_once, WalkIsAtOnce}
use Rattle.cycle_steps.specs.Moving.{stand_of, WalksTo}
use Rattle.cycle_steps.specs.Whole.{HasRecords, CyclesTo}
use Rattle.flat_run.specs.Running.{later, Runs}

-- memory may end at any time
pub memory-ends : (t : ℕ) (first : Option (ℕ × RuleStop)) → StopsCycle t first Memory
memory-ends t None = refl
memory-ends t (Some q) = inr refl

-- what a walk at once comes to
ends : (U : Type 0) (t : ℕ) (p : Parts) (was : List Event) (o : Option (ℕ × RuleStop)) (is : first_stop_among p.move p.touched ≡ o) (states : List LeafState) (waiting : List (Option ℕ)) (left : List Event) (records : Records) (r : Result U Stop)
    → left ≡ later t was → OnOk r (HasRecords p t records)
    → WalksTo t (at_once o (after_among p.move p.touched p.emitted) (moved_among p.move p.touched)) states waiting records.s.items r
    → Runs t p was states waiting left records r
ends U t p was None is states waiting left records (Ok u) later_is has h =
    let stands : stand_of (after_among p.move p.touched p.emitted) (waits (after_among p.move p.touched p.emitted)) ≡ stand_of states waiting = h.0 in
    let states_is : states ≡ after_among p.move p.touched p.emitted = sym (ap (λ (x : Stand). x.leaf_states) stands) in
    record {
      none = is;
      states_are = states_is;
      waiting_are = sym (ap (λ (x : Stand). x.waiting) stands) ∙ ap waits (sym states_is);
      left_are = later_is;
      records_are = record { y = has.y_is; n = has.n_is; x = has.x_is; s = h.1; out = has.out_is };
    }
ends U t p was (Some q) is states waiting left records (Ok u) later_is has h = absurd h
ends U t p was None is states waiting left records (Err stop) later_is has h =
    subst (λ (o : Option (ℕ × RuleStop)). StopsCycle t o stop) (sym is) h
ends U t p was (Some q) is states waiting left records (Err stop) later_is has h =
    subst (λ (o : Option (ℕ × RuleStop)). StopsCycle t o stop) (sym is) h

-- a cycle ends as its parts do
pub runs-by-walk : (U : Type 0) → WalkIsAtOnce → (tree : Tree) (t : ℕ) (s : RunState) (states : List LeafState) (waiting after : List (Option ℕ)) (left : List Event) (records : Records) (r : Result U Stop)
    → next_instant s ≡ Some t → waiting ≡ without t (waits s.leaf_states) → left ≡ later t s.events
    → CyclesTo tree t (cycle_parts tree t s) waiting states after records r → Runs t (cycle_parts tree t s) s.events states after left records r
runs-by-walk U once tree t s states waiting after left records r next taken later_is made =
    let p = cycle_parts tree t s in
    ends U t p s.events (first_stop_among p.move p.touched) refl states after left records r later_is made.records_are
    (subst (λ (w : Walked). WalksTo t w states after records.s.items r)
    (ap (λ ws. leaf_walk tree t p.given p.fed p.touched (stand_of p.emitted ws)) taken ∙ once tree t s next) made.walks)

-- so many leaves move, each with so many visits at most
pub moves-cost : (most : ℕ → ℕ) (k : ℕ) (moving touched : List ℕ) → ((l : ℕ) → most l ≤ k) → length moving ≤ length touched → sum_by most moving ≤ length touched * k
moves-cost most k moving touched each few =
    let le = sum_by-le most k moving (λ i d lt. each _) in
    grind (arith, le, few)
