-- What a call of a run answers, from the next cycle.
use Rattle.std.proofs.Common.{◌≡◌, ℕ, ◌+◌, ◌≤◌, ◌<◌, Option, Some, None, List, inl, inr, refl, sym, ◌∙◌, ap, subst}
use Rattle.std.specs.declared.result.Result.{Result}
use Rattle.std.specs.declared.result.Result.TheVariants.{Err}
use Rattle.rule_tree.specs.declared.outcome.RuleStop.{RuleStop}
use Rattle.rule_tree.specs.declared.outcome.RuleStop.TheVariants as rules
use Rattle.event_list.specs.Events.{Event}
use Rattle.run_model.specs.Cycle.{LeafState}
use Rattle.run_model.specs.Run.{next_instant, cycles_at, cycled, unless_stop}
use Rattle.run_model.specs.Fitting.{FitsTree}
use Rattle.run_model.specs.declared.stop.Stop.{Stop}
use Rattle.run_model.specs.declared.stop.Stop.TheVariants.{Memory}
use Rattle.run_model.specs.Stopping.{stop_of_rules, StopsCycle}
use Rattle.text_forms.specs.declared.records.Records.{Records}
use Rattle.text_forms.specs.Held.{AreEmpty}
use Rattle.sparse_cycle.specs.Laws.{NextIsSparse}
use Rattle.sparse_cycle.specs.Woken.{CostsItsParts}
use Rattle.sparse_cycle.specs.Sparse.{Parts, cycle_parts, first_stop_among, cycle_of_parts, state_of_parts, next_of_parts}
use Rattle.sparse_cycle.specs.Walk.{EachMoves}
use Rattle.run_leaves.specs.Seated.{Seated}
use Rattle.run_leaves.specs.declared.progress.Progress.{Progress}
use Rattle.run_leaves.specs.Standing.{Standing, tree_in, next_of_run}
use Rattle.run_leaves.specs.Steps.{Keeps, Cycles, Steps, Goes, visits_of}
use Rattle.flat_run.specs.Running.{RanTo, Runs, visits_in}
use Rattle.flat_run.proofs.Instants.{next-by-parts}
use Rattle.flat_run.proofs.Costs.{cycle-costs}

-- a cycle begins: the states fit, and this is its instant
pub record Begins (s : Standing) (t : ℕ) : Type 0 where
  pub fits : FitsTree (tree_in s) s.state.leaf_states
  pub next : next_instant s.state ≡ Some t
  pub within : t ≤ s.end
  pub few : cycles_at t s.state < s.limit

-- a cycle begins where the run is seen to stand
pub begins-at : (s seen : Standing) (t had : ℕ) → s ≡ seen → FitsTree (tree_in s) s.state.leaf_states
    → next_instant seen.state ≡ Some t → t ≤ seen.end → had ≡ cycles_at t seen.state → had < seen.limit → Begins s t
begins-at s seen t had is fits next within had_is few =
    let begins : FitsTree (tree_in seen) seen.state.leaf_states → Begins seen t =
    λ f. record { fits = f; next = next; within = within; few = subst (λ (n : ℕ). n < seen.limit) had_is few }
    in
    subst (λ (x : Standing). FitsTree (tree_in x) x.state.leaf_states → Begins x t) (sym is) begins fits

-- where a run stands, by its parts
abbrev pub standing : Seated → List Event → Option ℕ → ℕ → ℕ → ℕ → Option Stop → Standing
standing leaves events last count end limit stopped =
    record {
      model = leaves.model;
      settings = leaves.settings;
      state = record { leaf_states = leaves.states; events = events; last = last; count = count };
      end = end;
      limit = limit;
      stopped = stopped;
    }

-- its parts
abbrev pub parts_in : Standing → ℕ → Parts
parts_in s t = cycle_parts (tree_in s) t s.state

next-is : NextIsSparse → (s : Standing) (t : ℕ) → Begins s t → next_of_run s ≡ next_of_parts t s.state (parts_in s t)
next-is sparse s t begins =
    next-by-parts sparse (tree_in s) s.end s.limit s.state t begins.fits begins.next begins.within begins.few

-- the next cycle, or the stop of a leaf
next-at : NextIsSparse → (s : Standing) (t : ℕ) → Begins s t → (o : Option (ℕ × RuleStop)) → first_stop_among (parts_in s t).move (parts_in s t).touched ≡ o
    → next_of_run s ≡ unless_stop t o (cycle_of_parts t (parts_in s t)) (state_of_parts t s.state (parts_in s t))
next-at sparse s t begins o is =
    next-is sparse s t begins ∙ ap (λ o. unless_stop t o (cycle_of_parts t (parts_in s t)) (state_of_parts t s.state (parts_in s t))) is

-- ---- what is answered

-- where a run goes on, the call is the next step
pub goes-on : (o : Option Stop) (s : Standing) (r : Result Progress Stop) (s' : Standing) (records : Records) → o ≡ None → Steps s r s' records → Goes o s r s' records
goes-on None s r s' records none h = h
goes-on (Some why) s r s' records none h = absurd (not-none none)
  where
    IsThere : Option Stop → Type 0
    IsThere None = ⊥
    IsThere (Some why) = Unit {0}

    not-none : Some why ≡ None → ⊥
    not-none e = subst IsThere e tt

-- the cycle
pub cycles-on : NextIsSparse → (s s' : Standing) (t : ℕ) (records : Records) (waiting : List (Option ℕ)) → Begins s t
    → RanTo t (parts_in s t) s.state.events s'.state.leaf_states waiting s'.state.events records
    → s'.state.last ≡ Some t → s'.state.count ≡ cycles_at t s.state + 1 → Keeps s s' → s'.stopped ≡ None → Cycles s t s' records
cycles-on sparse s s' t records waiting begins ran last_is count_is keeps goes =
    let after : state_of_parts t s.state (parts_in s t) ≡ s'.state =
    λ i. record { leaf_states = sym ran.states_are i; events = sym ran.left_are i; last = sym last_is i; count = sym count_is i }
    in
    record {
      cycle = cycle_of_parts t (parts_in s t);
      next = next-at sparse s t begins None ran.none ∙ ap (λ n. cycled (cycle_of_parts t (parts_in s t)) n) after;
      time = refl;
      records_are = ran.records_are;
      keeps = keeps;
      goes_on = goes;
    }

-- a leaf stops
stops-at : NextIsSparse → (s s' : Standing) (t : ℕ) (records : Records) → Begins s t → (l : ℕ) (why : RuleStop)
    → first_stop_among (parts_in s t).move (parts_in s t).touched ≡ Some (l, why)
    → AreEmpty records → Keeps s s' → s'.stopped ≡ Some (stop_of_rules l t why) → Steps s (Err (stop_of_rules l t why)) s' records
stops-at sparse s s' t records begins l rules.NoTrueRule is empty keeps stopped =
    record { next = next-at sparse s t begins (Some (l, rules.NoTrueRule)) is; empty = empty; keeps = keeps; stopped = stopped }
stops-at sparse s s' t records begins l rules.Overflow is empty keeps stopped =
    record { next = next-at sparse s t begins (Some (l, rules.Overflow)) is; empty = empty; keeps = keeps; stopped = stopped }
stops-at sparse s s' t records begins l (rules.BadDelay delay) is empty keeps stopped =
    record { next = next-at sparse s t begins (Some (l, rules.BadDelay delay)) is; empty = empty; keeps = keeps; stopped = stopped }

-- memory ends
memory-at : (s s' : Standing) (records : Records) (stop : Stop) → AreEmpty records → Keeps s s' → s'.stopped ≡ Some stop → stop ≡ Memory → Steps s (Err stop) s' records
memory-at s s' records stop empty keeps stopped is =
    subst (λ (x : Stop). s'.stopped ≡ Some x → Steps s (Err x) s' records) (sym is) (λ so. (keeps, so, empty)) stopped

-- a leaf stops, or memory ends
by-first : NextIsSparse → (s s' : Standing) (t : ℕ) (records : Records) (stop : Stop) → Begins s t → AreEmpty records → Keeps s s' → s'.stopped ≡ Some stop
    → (first : Option (ℕ × RuleStop)) → first_stop_among (parts_in s t).move (parts_in s t).touched ≡ first → StopsCycle t first stop → Steps s (Err stop) s' records
by-first sparse s s' t records stop begins empty keeps stopped None is why = memory-at s s' records stop empty keeps stopped why
by-first sparse s s' t records stop begins empty keeps stopped (Some q) is (inl rules_stop) =
    subst (λ (x : Stop). s'.stopped ≡ Some x → Steps s (Err x) s' records) (sym rules_stop) (λ so. stops-at sparse s s' t records begins q.0 q.1 is empty keeps so) stopped
by-first sparse s s' t records stop begins empty keeps stopped (Some q) is (inr memory) = memory-at s s' records stop empty keeps stopped memory

pub breaks-at : NextIsSparse → (U : Type 0) (s s' : Standing) (t : ℕ) (states : List LeafState) (waiting : List (Option ℕ)) (left : List Event) (went records : Records) (r : Result U Stop) (stop : Stop) → Begins s t
    → r ≡ Err stop → Runs t (parts_in s t) s.state.events states waiting left went r
    → AreEmpty records → Keeps s s' → s'.stopped ≡ Some stop → Steps s (Err stop) s' records
breaks-at sparse U s s' t states waiting left went records r stop begins is runs empty keeps stopped =
    by-first sparse s s' t records stop begins empty keeps stopped (first_stop_among (parts_in s t).move (parts_in s t).touched) refl
    (subst (λ x. Runs t (parts_in s t) s.state.events states waiting left went x) is runs)

-- ---- what it costs

costs : NextIsSparse → EachMoves → CostsItsParts → (s : Standing) (t : ℕ) → Begins s t → (o : Option (ℕ × RuleStop)) → first_stop_among (parts_in s t).move (parts_in s t).touched ≡ o
    → visits_of s (next_of_run s) ≡ visits_in (tree_in s) (parts_in s t)
costs sparse each cost s t begins None is =
    ap (visits_of s) (next-at sparse s t begins None is) ∙ cycle-costs each (tree_in s) t s.state begins.fits begins.next is
costs sparse each cost s t begins (Some p) is =
    ap (visits_of s) (next-at sparse s t begins (Some p) is) ∙ cost (tree_in s) t s.state begins.fits begins.next

-- what the next cycle costs at most, also where a leaf stops
pub visits-are : NextIsSparse → EachMoves → CostsItsParts → (s : Standing) (t : ℕ) → Begins s t → visits_of s (next_of_run s) ≡ visits_in (tree_in s) (parts_in s t)
visits-are sparse each cost s t begins =
    costs sparse each cost s t begins (first_stop_among (parts_in s t).move (parts_in s t).touched) refl
