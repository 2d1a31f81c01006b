-- What a call of a run does: the next cycle of the reference run with its records, or its verdict.
use Rattle.std.specs.Prelude.{◌≡◌, ℕ, Option, Some, None}
use Rattle.std.specs.declared.result.Result.{Result}
use Rattle.std.specs.declared.result.Result.TheVariants.{Ok, Err}
use Rattle.rule_tree.specs.declared.outcome.RuleStop.TheVariants as rules
use Rattle.run_model.specs.Run.{Cycle, Next, ended, cycled, done, too_many, stop}
use Rattle.run_model.specs.Visits.{cycle_visits, stopping_visits}
use Rattle.text_forms.specs.declared.records.Records.{Records}
use Rattle.text_forms.specs.Held.{Holds, AreEmpty}
use Rattle.run_leaves.specs.declared.progress.Progress.{Progress}
use Rattle.run_leaves.specs.declared.progress.Progress.TheVariants.{Cycled, Done}
use Rattle.run_model.specs.declared.stop.Stop.{Stop}
use Rattle.run_model.specs.declared.stop.Stop.TheVariants.{NoTrueRule, Overflow, BadDelay, TooManyCycles, Memory}
use Rattle.run_leaves.specs.Standing.{Standing, tree_in, next_of_run}

-- model, end and limit stay
pub record Keeps (s s' : Standing) : Type 0 where
  pub model : s'.model ≡ s.model
  pub settings : s'.settings ≡ s.settings
  pub end : s'.end ≡ s.end
  pub limit : s'.limit ≡ s.limit

-- the next cycle at this time, with its records
pub record Cycles (s : Standing) (t : ℕ) (s' : Standing) (records : Records) : Type 0 where
  pub cycle : Cycle
  pub next : next_of_run s ≡ cycled cycle s'.state
  pub time : cycle.time ≡ t
  pub records_are : Holds records cycle
  pub keeps : Keeps s s'
  pub goes_on : s'.stopped ≡ None

-- a verdict adds no record, and is kept
pub record Stops (s : Standing) (verdict : Next) (why : Stop) (s' : Standing)
    (records : Records) : Type 0 where
  pub next : next_of_run s ≡ verdict
  pub empty : AreEmpty records
  pub keeps : Keeps s s'
  pub stopped : s'.stopped ≡ Some why

-- a call by what it answers
abbrev pub Steps : Standing → Result Progress Stop → Standing → Records → Type 0
Steps s (Ok (Cycled t)) s' records = Cycles s t s' records
Steps s (Ok Done) s' records = (next_of_run s ≡ ended done) × (s' ≡ s) × AreEmpty records
Steps s (Err (NoTrueRule leaf t)) s' records =
    Stops s (ended (stop leaf t rules.NoTrueRule)) (NoTrueRule leaf t) s' records
Steps s (Err (Overflow leaf t)) s' records =
    Stops s (ended (stop leaf t rules.Overflow)) (Overflow leaf t) s' records
Steps s (Err (BadDelay leaf t delay)) s' records =
    Stops s (ended (stop leaf t (rules.BadDelay delay))) (BadDelay leaf t delay) s' records
Steps s (Err (TooManyCycles t)) s' records =
    Stops s (ended (too_many t)) (TooManyCycles t) s' records
Steps s (Err Memory) s' records = Keeps s s' × (s'.stopped ≡ Some Memory) × AreEmpty records

-- the next cycle, or the stop that was answered before
abbrev pub Goes : Option Stop → Standing → Result Progress Stop → Standing → Records → Type 0
Goes None s result s' records = Steps s result s' records
Goes (Some why) s result s' records =
    (result ≡ (let r : Result Progress Stop = Err why in r)) × (s' ≡ s) × AreEmpty records

-- the most visits of a call
abbrev pub visits_of : Standing → Next → ℕ
visits_of s (cycled c n) = cycle_visits (tree_in s) c
visits_of s (ended done) = 0
visits_of s (ended (too_many t)) = 0
visits_of s (ended (stop leaf t why)) = stopping_visits (tree_in s) t s.state
