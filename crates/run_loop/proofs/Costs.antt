-- What a run costs: a call takes no more than what is left of the run.
use Rattle.std.proofs.Common.{◌≡◌, ℕ, zero, suc, ◌+◌, ◌-◌, ◌<◌, ◌≤◌, List, [], ◌∷◌, refl, sym, ap, ◌∙◌, subst, arith}
use Rattle.std.specs.List.{sum_by}
use Rattle.std.proofs.lemmas.List.Sums.{sum_by-cons}
use Rattle.model_tree.specs.Tree.{Tree, leaf_count}
use Rattle.run_model.specs.Run.{Cycle, Run, RunState, Verdict, done, too_many, stop, Next, ended, cycled, next_cycle, run_from, cycle_in_front}
use Rattle.run_model.specs.Runs.{Runs, ends, goes}
use Rattle.run_model.specs.Visits.{cycle_visits, last_visits, visits}
use Rattle.run_leaves.specs.Standing.{Standing, tree_in, next_of_run}
use Rattle.run_leaves.specs.Steps.{Keeps, visits_of}
use Rattle.run_loop.specs.Left.{rest_of, EndsWithin}
use Rattle.run_loop.proofs.GoesOn.{run_ended, from_cycled, from_none, run_more, same_tree}

-- ---- a run whose next cycle is due

ended≢cycled : {v : Verdict} {c : Cycle} {n : RunState} → ended v ≡ cycled c n → ⊥
ended≢cycled e = cc

cons≢nil : {c : Cycle} {cs : List Cycle} → c ∷ cs ≡ [] → ⊥
cons≢nil e = cc

abbrev state_in : Next → RunState → RunState
state_in (ended v) d = d
state_in (cycled c n) d = n

abbrev tail_in : List Cycle → List Cycle
tail_in [] = []
tail_in (c ∷ cs) = cs

-- it has a first cycle
has_first : (tree : Tree) (end limit : ℕ) (s l m : RunState) (cs : List Cycle) (v : Verdict) (c : Cycle) → Runs tree end limit s cs v l → next_cycle tree end limit s ≡ cycled c m → cs ≡ [] → ⊥
has_first tree end limit s _ m _ v c (ends e) is none = ended≢cycled (sym e ∙ is)
has_first tree end limit s l m _ v c (goes e r) is none = cons≢nil none

-- what is behind that is a run from the next state
goes_on_behind : (tree : Tree) (end limit : ℕ) (s l m : RunState) (cs ds : List Cycle) (v : Verdict) (c : Cycle) → Runs tree end limit s cs v l → next_cycle tree end limit s ≡ cycled c m → cs ≡ c ∷ ds → Runs tree end limit m ds v l
goes_on_behind tree end limit s _ m _ ds v c (ends e) is same = absurd (ended≢cycled (sym e ∙ is))
goes_on_behind tree end limit s l m _ ds v c (goes {n} {c = d} {cs} e r) is same =
    let state : n ≡ m = ap (λ x. state_in x n) (sym e ∙ is) in
    let rest : cs ≡ ds = ap tail_in same in
    subst (λ x. Runs tree end limit x ds v l) state (subst (λ xs. Runs tree end limit n xs v l) rest r)

-- ---- what the next call costs

pub cost_front : (tree : Tree) (c : Cycle) (r : Run) → visits tree (cycle_in_front c r) ≡ cycle_visits tree c + visits tree r
cost_front tree c r =
    ap (λ (k : ℕ). leaf_count tree + k + last_visits tree r.verdict r.left) (sum_by-cons (cycle_visits tree) c r.cycles)
    ∙ parts (leaf_count tree) (cycle_visits tree c) (sum_by (cycle_visits tree) r.cycles) (last_visits tree r.verdict r.left)
  where
    parts : (a b k d : ℕ) → a + (b + k) + d ≡ b + (a + k + d)
    parts a b k d = omega arith

verdict_within : (s : Standing) (v : Verdict) → visits_of s (ended v) ≤ visits (tree_in s) (record { cycles = []; verdict = v; left = s.state })
verdict_within s done = omega arith
verdict_within s (too_many t) = omega arith
verdict_within s (stop leaf t why) = omega arith

front_within : (tree : Tree) (c : Cycle) (r : Run) → cycle_visits tree c ≤ visits tree (cycle_in_front c r)
front_within tree c r = let e = cost_front tree c r in omega (arith, e)

-- where a cycle is due, some are counted still
pub some_left : (s : Standing) (c : Cycle) (m : RunState) → EndsWithin 0 s → next_of_run s ≡ cycled c m → ⊥
some_left s c m whole is =
    has_first (tree_in s) s.end s.limit s.state (rest_of 0 s).left m (rest_of 0 s).cycles (rest_of 0 s).verdict c whole is
    (ap (λ (r : Run). r.cycles) (from_none (tree_in s) s.end s.limit s.state m c is))

-- the cycle that is due is the first of those that are left
pub has_cycle : (n : ℕ) (s : Standing) (c : Cycle) (m : RunState) → EndsWithin n s → next_of_run s ≡ cycled c m → (cs : List Cycle) × ((rest_of n s).cycles ≡ c ∷ cs)
has_cycle zero s c m whole is = absurd (some_left s c m whole is)
has_cycle (suc n) s c m whole is =
    let behind = run_from n (tree_in s) s.end s.limit m in
    (behind.cycles, ap (λ (r : Run). r.cycles) (from_cycled n (tree_in s) s.end s.limit s.state m c is))

cycle_within : (n : ℕ) (s : Standing) (c : Cycle) (m : RunState) → EndsWithin n s → next_of_run s ≡ cycled c m → cycle_visits (tree_in s) c ≤ visits (tree_in s) (rest_of n s)
cycle_within zero s c m whole is = absurd (some_left s c m whole is)
cycle_within (suc n) s c m whole is =
    subst (λ (r : Run). cycle_visits (tree_in s) c ≤ visits (tree_in s) r) (sym (from_cycled n (tree_in s) s.end s.limit s.state m c is))
    (front_within (tree_in s) c (run_from n (tree_in s) s.end s.limit m))

-- no more than the run that is left
pub call_within : (n : ℕ) (s : Standing) → EndsWithin n s → visits_of s (next_of_run s) ≤ visits (tree_in s) (rest_of n s)
call_within n s whole = by (next_of_run s) refl
  where
    by : (x : Next) → next_of_run s ≡ x → visits_of s x ≤ visits (tree_in s) (rest_of n s)
    by (ended v) is = subst (λ (r : Run). visits_of s (ended v) ≤ visits (tree_in s) r) (sym (run_ended n s v is)) (verdict_within s v)
    by (cycled c m) is = cycle_within n s c m whole is

-- ---- after a cycle

pub whole_next : (left : ℕ) (s m : Standing) (c : Cycle) → EndsWithin left s → 0 < left → next_of_run s ≡ cycled c m.state → Keeps s m → EndsWithin (left - 1) m
whole_next left s m c whole some is keeps =
    let more = run_more left s m c some is keeps in
    let r = rest_of (left - 1) m in
    let behind = goes_on_behind (tree_in s) s.end s.limit s.state r.left m.state (c ∷ r.cycles) r.cycles r.verdict c
    (subst (λ (q : Run). Runs (tree_in s) s.end s.limit s.state q.cycles q.verdict q.left) more whole) is refl in
    subst (λ (t : Tree). Runs t m.end m.limit m.state r.cycles r.verdict r.left) (sym (same_tree s m keeps))
    (subst (λ (e : ℕ). Runs (tree_in s) e m.limit m.state r.cycles r.verdict r.left) (sym keeps.end)
    (subst (λ (l : ℕ). Runs (tree_in s) s.end l m.state r.cycles r.verdict r.left) (sym keeps.limit) behind))
