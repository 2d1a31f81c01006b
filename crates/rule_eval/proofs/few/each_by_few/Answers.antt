use Rattle.std.proofs.Common.{List, subst, arith}
use Rattle.std.specs.List.{All}
use Rattle.std.proofs.lemmas.Bool.{and_parts}
use Rattle.std.proofs.lemmas.List.{take_all}
use Rattle.std.proofs.lemmas.List.Elements.{All-more}
use Rattle.rule_tree.specs.Expression.{Rule}
use Rattle.rule_eval.specs.Few.{GoesByFew}
use Rattle.rule_eval.proofs.few.each_by_few.Goals as goal

pub loop-rule-init : goal.loop-rule-init
loop-rule-init c = λ so k d lt. absurd (omega (arith, lt))

pub loop-rule-preserved : goal.loop-rule-preserved
loop-rule-preserved c = λ so.
    let both = and_parts c.loop-rule.all c.goes_by_few-all.result so in
    All-more (GoesByFew c.args.own) c.args.rules.now c.loop-rule.rule-index c.rule-item.result c.loop-rule-test.true (c.loop-rule.invariant both.0)
    (subst (λ (r : Rule). GoesByFew c.args.own r) c.rule-item.is (c.goes_by_few-all.ensures both.1))

pub returns : goal.returns
returns c = λ so.
    subst (λ (rs : List Rule). All (GoesByFew c.args.own) rs) (take_all c.loop-rule.rule-index c.args.rules.now c.loop-rule-test.false) (c.loop-rule.invariant so)
