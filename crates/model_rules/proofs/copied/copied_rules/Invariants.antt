use Rattle.std.proofs.Common.{◌≡◌, map, take}
use Rattle.rule_tree.specs.InCode.{rule_of}
use Rattle.model_rules.proofs.copied.copied_rules.Given as goal

abbrev pub invariant-loop-rule : goal.invariant-loop-rule
invariant-loop-rule l = map rule_of l.made.items ≡ map rule_of (take l.rule-index l.rules)
