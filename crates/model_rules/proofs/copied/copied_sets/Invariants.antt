use Rattle.std.proofs.Common.{◌≡◌, map, take}
use Rattle.model_rules.specs.Parts.{rules_shown}
use Rattle.model_rules.proofs.copied.copied_sets.Given as goal

abbrev pub invariant-loop-rules : goal.invariant-loop-rules
invariant-loop-rules l = map rules_shown l.made.items ≡ map rules_shown (take l.rules-index l.sets)
