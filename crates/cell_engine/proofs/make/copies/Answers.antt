use Rattle.std.proofs.Common.{◌≡◌, ◌∙◌, rules}
use Rattle.std.proofs.lemmas.List.{take_all}
use Rattle.cell_engine.proofs.Grown.{copied_more}
use Rattle.cell_engine.proofs.make.copies.Goals as goal

pub loop-rule-preserved : goal.loop-rule-preserved
loop-rule-preserved c =
    let port : c.in_ok-port.port ≡ c.rule-item.result.port = search rules in
    c.in_ok-add_port_rule.ensures
    ∙ copied_more c.args.rules.now c.loop-rule.made.items c.loop-rule.rule-index c.rule-item.result _ c.loop-rule-test.true c.rule-item.is c.loop-rule.invariant
    (λ k. record { port = port k; cell = c.rule-item.result.cell; rules = c.rule-item.result.rules })

pub returns : goal.returns
returns c = c.loop-rule.invariant ∙ take_all c.loop-rule.rule-index c.args.rules.now c.loop-rule-test.false
