use Rattle.std.proofs.Common.{◌≡◌, map, take}
use Rattle.rule_tree.specs.InCode.{rule_of}
use Rattle.cell_engine.proofs.make.codes_of_sets.Given as goal

abbrev pub invariant-loop-rules : goal.invariant-loop-rules
invariant-loop-rules l = map (λ rules. rules.items) l.codes.items ≡ map (λ rules. map rule_of rules.items) (take l.rules-index l.sets)
