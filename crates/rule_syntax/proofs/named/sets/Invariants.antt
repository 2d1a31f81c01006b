use Rattle.std.proofs.Common.{◌≡◌, map}
use Rattle.rule_syntax.specs.RulesRead.{set_of}
use Rattle.rule_syntax.proofs.named.sets.Given as goal

abbrev pub invariant-loop-value : goal.invariant-loop-value
invariant-loop-value l = l.sets.items ≡ map set_of l.yielded
