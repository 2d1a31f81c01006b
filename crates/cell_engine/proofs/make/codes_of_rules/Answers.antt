use Rattle.std.proofs.Common.{◌∙◌, map, ap}
use Rattle.std.proofs.lemmas.List.{take_all}
use Rattle.rule_tree.specs.InCode.{rule_of}
use Rattle.cell_engine.proofs.Grown.{one_more}
use Rattle.cell_engine.proofs.make.codes_of_rules.Goals as goal

pub loop-rule-preserved : goal.loop-rule-preserved
loop-rule-preserved c =
    c.in_ok-add_code.ensures
    ∙ one_more rule_of c.args.rules.now c.loop-rule.rule-index c.rule-item.result c.loop-rule.codes.items c.in_ok-code.code c.loop-rule-test.true c.rule-item.is c.loop-rule.invariant c.in_ok-code.ensures.rule

pub returns : goal.returns
returns c = c.loop-rule.invariant ∙ ap (map rule_of) (take_all c.loop-rule.rule-index c.args.rules.now c.loop-rule-test.false)
