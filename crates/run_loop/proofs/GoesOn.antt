-- What is left of a run, before and after a cycle.
use Rattle.std.proofs.Common.{◌≡◌, ℕ, zero, suc, ◌-◌, ◌<◌, Option, None, [], refl, sym, ap, ◌∙◌, subst, arith}
use Rattle.std.specs.Prelude.{Result, Err}
use Rattle.rule_tree.specs.declared.outcome.RuleStop.TheVariants as rules
use Rattle.model_tree.specs.Tree.{Tree}
use Rattle.model_leaves.specs.Models.{tree_of}
use Rattle.run_model.specs.Run.{Cycle, RunState, Verdict, too_many, stop, ended, cycled, next_cycle, run_from, run_behind, at_last, cycle_in_front}
use Rattle.text_forms.specs.declared.records.Records.{Records}
use Rattle.run_leaves.specs.Seated.{settings_at}
use Rattle.run_leaves.specs.Standing.{Standing, tree_in, next_of_run}
use Rattle.run_leaves.specs.Steps as run
use Rattle.run_leaves.specs.Steps.{Keeps}
use Rattle.run_leaves.specs.declared.progress.Progress.{Progress}
use Rattle.run_model.specs.declared.stop.Stop.{Stop}
use Rattle.run_model.specs.declared.stop.Stop.TheVariants.{NoTrueRule, Overflow, BadDelay, TooManyCycles, Memory}
use Rattle.run_loop.specs.declared.ending.Ending.TheVariants.{Stopped}
use Rattle.run_loop.specs.Left.{rest_of}
use Rattle.run_loop.specs.Ends.{IsVerdict}

-- ---- what is left of a run, before and after a cycle

from_ended : (n : ℕ) (tree : Tree) (end most : ℕ) (s : RunState) (v : Verdict) → next_cycle tree end most s ≡ ended v → run_from n tree end most s ≡ record { cycles = []; verdict = v; left = s }
unfolding run_from
from_ended zero tree end most s v is = ap (at_last s) is
from_ended (suc n) tree end most s v is = ap (λ x. run_behind s x (run_from n tree end most)) is

pub from_cycled : (n : ℕ) (tree : Tree) (end most : ℕ) (s m : RunState) (c : Cycle) → next_cycle tree end most s ≡ cycled c m → run_from (suc n) tree end most s ≡ cycle_in_front c (run_from n tree end most m)
unfolding run_from
from_cycled n tree end most s m c is = ap (λ x. run_behind s x (run_from n tree end most)) is

pub from_none : (tree : Tree) (end most : ℕ) (s m : RunState) (c : Cycle) → next_cycle tree end most s ≡ cycled c m → run_from 0 tree end most s ≡ record { cycles = []; verdict = too_many c.time; left = s }
unfolding run_from
from_none tree end most s m c is = ap (at_last s) is

-- the run ends here
pub run_ended : (n : ℕ) (s : Standing) (v : Verdict) → next_of_run s ≡ ended v → rest_of n s ≡ record { cycles = []; verdict = v; left = s.state }
run_ended n s v is = from_ended n (tree_in s) s.end s.limit s.state v is

pub same_tree : (s m : Standing) → Keeps s m → tree_in m ≡ tree_in s
same_tree s m keeps = λ i. tree_of (keeps.model i) (settings_at (keeps.settings i))

-- the run goes on after a cycle
pub run_more : (n : ℕ) (s m : Standing) (c : Cycle) → 0 < n → next_of_run s ≡ cycled c m.state → Keeps s m → rest_of n s ≡ cycle_in_front c (rest_of (n - 1) m)
run_more n s m c some is keeps =
    let e : n ≡ suc (n - 1) = omega arith in
    ap (λ k. rest_of k s) e ∙ from_cycled (n - 1) (tree_in s) s.end s.limit s.state m.state c is
    ∙ (λ i. cycle_in_front c (run_from (n - 1) (sym (same_tree s m keeps) i) (sym keeps.end i) (sym keeps.limit i) m.state))

-- a call that stops ends the run, but for want of memory
pub stops_with : (s m : Standing) (records : Records) (why : Stop) → run.Steps s (Err why) m records → ¬ (why ≡ Memory) → (v : Verdict) × (next_of_run s ≡ ended v) × IsVerdict (Stopped why) v
stops_with s m records (NoTrueRule leaf t) step other = (stop leaf t rules.NoTrueRule, step.next, refl)
stops_with s m records (Overflow leaf t) step other = (stop leaf t rules.Overflow, step.next, refl)
stops_with s m records (BadDelay leaf t delay) step other = (stop leaf t (rules.BadDelay delay), step.next, refl)
stops_with s m records (TooManyCycles t) step other = (too_many t, step.next, refl)
stops_with s m records Memory step other = absurd (other refl)

pub stop_keeps : (s m : Standing) (records : Records) (why : Stop) → run.Steps s (Err why) m records → Keeps s m
stop_keeps s m records (NoTrueRule leaf t) step = step.keeps
stop_keeps s m records (Overflow leaf t) step = step.keeps
stop_keeps s m records (BadDelay leaf t delay) step = step.keeps
stop_keeps s m records (TooManyCycles t) step = step.keeps
stop_keeps s m records Memory step = step.0

pub keeps-refl : (s : Standing) → Keeps s s
keeps-refl s = record { model = refl; settings = refl; end = refl; limit = refl }

pub keeps-trans : (s m u : Standing) → Keeps s m → Keeps m u → Keeps s u
keeps-trans s m u p q = record { model = q.model ∙ p.model; settings = q.settings ∙ p.settings; end = q.end ∙ p.end; limit = q.limit ∙ p.limit }

pub keeps_same : (s m u : Standing) → Keeps s m → u ≡ m → Keeps s u
keeps_same s m u p is = subst (Keeps s) (sym is) p

-- the call's step, where nothing has stopped before
pub goes_on : (s m : Standing) (result : Result Progress Stop) (records : Records) → s.stopped ≡ None → run.Goes s.stopped s result m records → run.Steps s result m records
goes_on s m result records none goes = subst (λ (o : Option Stop). run.Goes o s result m records) none goes
