use Rattle.std.proofs.Common.{subst}
use Rattle.rule_tree.specs.Expression.{Expr}
use Rattle.rule_eval.specs.Few.{IsByFew}
use Rattle.rule_eval.proofs.Fewness.{goes_by}
use Rattle.rule_eval.proofs.few.goes_by_few.Goals as goal

pub returns-in-Some : goal.returns-in-Some
returns-in-Some c = λ so.
    let condition = subst (λ (e : Expr). IsByFew c.args.own e) c.condition.ensures (c.form_by_few.ensures so) in
    goes_by c.args.own c.args.rule.now c.in-Some._known.now condition c.in-Some.ensures.always
