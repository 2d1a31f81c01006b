use Rattle.std.proofs.Common.{take}
use Rattle.rule_syntax.specs.Shown.{names_of}
use Rattle.model_rules.specs.Parts.{HasRules}
use Rattle.model_rules.proofs.rules_in.rules_in.Given as goal

abbrev pub invariant-loop-entry : goal.invariant-loop-entry
invariant-loop-entry l = HasRules (names_of l.names) (take l.entry-index l.entry-items) l.read
