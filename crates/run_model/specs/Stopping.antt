-- Why a run stops, from why a leaf doesn't move.
use Rattle.std.specs.Prelude.{◌≡◌, ◌⊎◌, ℕ, Option, Some, None}
use Rattle.rule_tree.specs.declared.outcome.RuleStop.{RuleStop}
use Rattle.rule_tree.specs.declared.outcome.RuleStop.TheVariants as rules
use Rattle.run_model.specs.declared.stop.LeafStop.{LeafStop}
use Rattle.run_model.specs.declared.stop.LeafStop.TheVariants as leaf
use Rattle.run_model.specs.declared.stop.Stop.{Stop}
use Rattle.run_model.specs.declared.stop.Stop.TheVariants.{NoTrueRule, Overflow, BadDelay, Memory}

-- its rules stop this leaf at this instant
abbrev pub stop_of_rules : ℕ → ℕ → RuleStop → Stop
stop_of_rules l t rules.NoTrueRule = NoTrueRule l t
stop_of_rules l t rules.Overflow = Overflow l t
stop_of_rules l t (rules.BadDelay delay) = BadDelay l t delay

-- this leaf doesn't move at this instant
abbrev pub stop_of_leaf : ℕ → ℕ → LeafStop → Stop
stop_of_leaf l t (leaf.Rule why) = stop_of_rules l t why
stop_of_leaf l t leaf.Memory = Memory

-- a cycle at this instant breaks off: by the first leaf that stops, where one does, or for want of
-- memory
abbrev pub StopsCycle : ℕ → Option (ℕ × RuleStop) → Stop → Type 0
StopsCycle t None why = why ≡ Memory
StopsCycle t (Some first) why = (why ≡ stop_of_rules first.0 t first.1) ⊎ (why ≡ Memory)
