use Rattle.std.proofs.Common.{◌≡◌, map, take}
use Rattle.rule_tree.specs.InCode.{rule_of}
use Rattle.cell_engine.proofs.make.codes_of_rules.Given as goal

abbrev pub invariant-loop-rule : goal.invariant-loop-rule
invariant-loop-rule l = l.codes.items ≡ map rule_of (take l.rule-index l.rules)
