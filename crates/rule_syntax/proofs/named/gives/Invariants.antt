use Rattle.std.proofs.Common.{◌≡◌, map}
use Rattle.rule_syntax.specs.RulesRead.{give_of}
use Rattle.rule_syntax.proofs.named.gives.Given as goal

abbrev pub invariant-loop-value : goal.invariant-loop-value
invariant-loop-value l = l.gives.items ≡ map give_of l.yielded
