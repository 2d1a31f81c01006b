-- A run goes on from a saved state as it would have gone on.
use Rattle.std.proofs.Common.{◌≡◌, ℕ, ◌+◌, ◌<◌, ◌≤◌, Bool, true, false, cond, Option, Some, None, List, [], ◌∷◌, ◌++◌, refl, sym, ◌∙◌, ap, subst, arith}
use Rattle.std.specs.Prelude.{IfSome, if◌then◌else◌, nat_lt, nat_le, not, ◌==◌}
use Rattle.std.specs.List.{All, filter}
use Rattle.std.proofs.lemmas.List.Elements.{All-nil, All-cons}
use Rattle.std.proofs.lemmas.Bool.Decides.{nat_tests}
use Rattle.atomic_face.specs.Classes.{is_at}
use Rattle.model_tree.specs.Tree.{Tree}
use Rattle.run_model.specs.Cycle.{LeafState, output_bags, moves, first_stop, all_after}
use Rattle.run_model.specs.Run.{Event, Cycle, RunState, Verdict, done, too_many, Next, ended, resumed_state, next_instant, at_top, cycle_of, unless_stop, next_at, next_cycle, run_to, most_cycles}
use Rattle.run_model.specs.Runs.{Runs, ends, goes}
use Rattle.run_model.specs.Waiting.{IsNotBefore, StandsFrom}
use Rattle.run_model.specs.Instants.{InstantsNeverFall}
use Rattle.run_model.specs.Joins.{CyclesJoin, ResumesAgain}
use Rattle.run_model.proofs.RunLaws.{once, join}
use Rattle.run_model.proofs.Steps.{is_cycled}
use Rattle.run_model.proofs.WaitingCycle.{cycles-stand, resumed-stands, is_done}
use Rattle.run_model.proofs.Ends.{runs-end, done-leaves-later, instants-of-runs}

abbrev standing : List LeafState → List Event → Option ℕ → ℕ → RunState
standing states events last count = record { leaf_states = states; events = events; last = last; count = count }

module _ (tree : Tree) (end limit : ℕ) (states : List LeafState) (events : List Event) (last : Option ℕ) (count : ℕ) where
  -- the next cycle at an instant, where so many were run at it
  abbrev after_so_many : ℕ → ℕ → Next
  after_so_many t n =
      let gave = output_bags t states in
      let top = at_top tree t events in
      let ms = moves tree t states gave top in
      cond (nat_lt end t) (ended done)
      (cond (nat_le limit n) (ended (too_many t))
      (unless_stop t (first_stop 0 ms) (cycle_of tree t gave top ms)
      (record { leaf_states = all_after states ms; events = filter (λ (e : Event). not (e.time == t)) events; last = Some t; count = n + 1 })))

  same_next : ((t : ℕ) → next_instant (standing states events None 0) ≡ Some t → (if is_at t last then count else 0) ≡ 0) → next_cycle tree end limit (standing states events last count) ≡ next_cycle tree end limit (standing states events None 0)
  unfolding next_cycle
  same_next none = by_instant (next_instant (standing states events None 0)) refl
    where
      by_instant : (o : Option ℕ) → next_instant (standing states events None 0) ≡ o → next_at tree end limit (standing states events last count) o ≡ next_at tree end limit (standing states events None 0) o
      by_instant None is = refl
      by_instant (Some t) is = ap (after_so_many t) (none t is)

not_at : (t end count : ℕ) (last : Option ℕ) → IfSome last (λ u. u ≤ end) → end + 1 ≤ t → (if is_at t last then count else 0) ≡ 0
not_at t end count None h le = refl
not_at t end count (Some u) h le = let test : (u == t) ≡ false = grind (arith, nat_tests) in ap (λ b. cond b count 0) test

-- where a run is done
module _ (tree : Tree) (end limit : ℕ) where
  done_at : (low : ℕ) (s l : RunState) (cs : List Cycle) → StandsFrom limit low s → IfSome s.last (λ u. u ≤ end) → Runs tree end limit s cs done l → (next_cycle tree end limit l ≡ ended done) × IfSome l.last (λ u. u ≤ end)
  done_at low s l _ h last (ends e) = (e, last)
  done_at low s l _ h last (goes {n} {c} {cs} e q) =
      let is = is_cycled tree end limit s n c e in
      let within : IfSome n.last (λ u. u ≤ end) = subst (λ (m : RunState). IfSome m.last (λ u. u ≤ end)) (sym is.1.next) is.1.within in
      done_at c.time n l cs (cycles-stand tree end limit low s n c h e).stands within q

abbrev Later : ℕ → Cycle → Type 0
Later first c = first < c.time

all_after_first : (first low : ℕ) (cs : List Cycle) → first < low → InstantsNeverFall low cs → All (Later first) cs
all_after_first first low [] lt h = All-nil (Later first)
all_after_first first low (c ∷ cs) lt h =
    let later : first < c.time = omega (arith, h.0) in All-cons (Later first) c cs later (all_after_first first c.time cs later h.1)

-- the run on from where the first stands, and the run on from the saved state
pub record GoesOn (tree : Tree) (end limit : ℕ) (l k : RunState) (ds : List Cycle) (v : Verdict) : Type 0 where
  pub left : RunState
  pub is_run : Runs tree end limit l ds v left
  pub leaves : left.leaf_states ≡ k.leaf_states
  pub events : left.events ≡ k.events

goes_on : (tree : Tree) (end limit : ℕ) (l m k : RunState) (ds : List Cycle) (v : Verdict) → next_cycle tree end limit l ≡ next_cycle tree end limit m → l.leaf_states ≡ m.leaf_states → l.events ≡ m.events → Runs tree end limit m ds v k → GoesOn tree end limit l k ds v
goes_on tree end limit l m k _ v same leaves events (ends e) = record { left = l; is_run = ends (same ∙ e); leaves = leaves; events = events }
goes_on tree end limit l m k _ v same leaves events (goes e q) = record { left = k; is_run = goes (same ∙ e) q; leaves = refl; events = refl }

pub cycles-join : CyclesJoin
cycles-join tree first last limit low s h fresh le is_finished =
    let begun = run_to tree first limit s in
    let l = begun.left in
    let m = resumed_state first l.leaf_states s.events in
    let more = run_to tree last limit m in
    let whole = run_to tree last limit s in
    let front : Runs tree first limit s begun.cycles done l =
    subst (λ v. Runs tree first limit s begun.cycles v l) is_finished (runs-end (most_cycles first limit) tree first limit low s h (omega arith)) in
    let leaves = done-leaves-later tree first limit low s l begun.cycles h front in
    let none : IfSome s.last (λ u. u ≤ first) = subst (λ o. IfSome o (λ u. u ≤ first)) (sym fresh) tt in
    let end = done_at tree first limit low s l begun.cycles h none front in
    let next : IsNotBefore (first + 1) (next_instant l) = is_done tree first limit l end.0 in
    let same_instant : next_instant l ≡ next_instant m = ap (λ es. next_instant (standing l.leaf_states es None 0)) leaves.events in
    let same : next_cycle tree last limit l ≡ next_cycle tree last limit m =
    same_next tree last limit l.leaf_states l.events l.last l.count
    (λ t is. not_at t first l.count l.last end.1 (subst (IsNotBefore (first + 1)) is next))
    ∙ ap (λ es. next_cycle tree last limit (standing l.leaf_states es None 0)) leaves.events in
    let stands = resumed-stands first limit l.leaf_states s.events leaves.leaves in
    let back : Runs tree last limit m more.cycles more.verdict more.left = runs-end (most_cycles last limit) tree last limit (first + 1) m stands (omega arith) in
    let on = goes_on tree last limit l m more.left more.cycles more.verdict same refl leaves.events back in
    let one = join tree first last limit s l on.left begun.cycles more.cycles more.verdict le front on.is_run in
    let same_run = once tree last limit s whole.cycles (begun.cycles ++ more.cycles) whole.verdict more.verdict whole.left on.left
    (runs-end (most_cycles last limit) tree last limit low s h (omega arith)) one in
    record {
      cycles = same_run.0;
      verdict = same_run.1;
      leaves = ap (λ (k : RunState). k.leaf_states) same_run.2 ∙ on.leaves;
      events = ap (λ (k : RunState). k.events) same_run.2 ∙ on.events;
      later = all_after_first first (first + 1) more.cycles (omega arith) (instants-of-runs tree last limit (first + 1) m more.left more.cycles more.verdict stands back).never_fall;
    }

again : (first second : ℕ) (es : List Event) → first ≤ second → filter (λ (e : Event). nat_lt second e.time) (filter (λ (e : Event). nat_lt first e.time) es) ≡ filter (λ (e : Event). nat_lt second e.time) es
again first second [] le = refl
again first second (e ∷ es) le = go (nat_lt first e.time) refl (again first second es le)
  where
    go : (b : Bool) → nat_lt first e.time ≡ b → filter (λ (e : Event). nat_lt second e.time) (filter (λ (e : Event). nat_lt first e.time) es) ≡ filter (λ (e : Event). nat_lt second e.time) es → filter (λ (e : Event). nat_lt second e.time) (cond b (e ∷ filter (λ (e : Event). nat_lt first e.time) es) (filter (λ (e : Event). nat_lt first e.time) es)) ≡ filter (λ (e : Event). nat_lt second e.time) (e ∷ es)
    go true is same = ap (λ l. cond (nat_lt second e.time) (e ∷ l) l) same
    go false is same =
        let test : false ≡ nat_lt second e.time = grind (arith, nat_tests) in
        same ∙ ap (λ b. cond b (e ∷ filter (λ (e : Event). nat_lt second e.time) es) (filter (λ (e : Event). nat_lt second e.time) es)) test

pub resumes-again : ResumesAgain
resumes-again first second states others events le = ap (λ es. standing states es None 0) (again first second events le)
