use Rattle.rule_eval.proofs.Fewness.{go_by}
use Rattle.rule_eval.proofs.few.go_by_few.Goals as goal

pub returns : goal.returns
returns c = λ so. go_by c.args.own c.args.rules.now (c.each_by_few.ensures so)
