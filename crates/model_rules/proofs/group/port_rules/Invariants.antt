use Rattle.std.proofs.Common.{◌≡◌, take, map}
use Rattle.source_text.specs.Shown.{texts}
use Rattle.model_rules.specs.Parts.{rules_by_number}
use Rattle.model_rules.proofs.group.port_rules.Given as goal

abbrev pub invariant-loop-rule : goal.invariant-loop-rule
invariant-loop-rule l = l.numbered.items ≡ map (rules_by_number (texts l.names.keys)) (take l.rule-index l.rules)
