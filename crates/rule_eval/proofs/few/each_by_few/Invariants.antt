use Rattle.std.proofs.Common.{take}
use Rattle.std.specs.Prelude.{IsTrue}
use Rattle.std.specs.List.{All}
use Rattle.rule_eval.specs.Few.{GoesByFew}
use Rattle.rule_eval.proofs.few.each_by_few.Given as goal

abbrev pub invariant-loop-rule : goal.invariant-loop-rule
invariant-loop-rule l = IsTrue l.all → All (GoesByFew l.own) (take l.rule-index l.rules)
