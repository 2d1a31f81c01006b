use Rattle.std.proofs.Common.{◌≡◌, max, arith, rules}
use Rattle.cell_engine.proofs.Made.{needs_more}
use Rattle.cell_engine.proofs.make.deepest.Goals as goal

pub loop-rule-preserved : goal.loop-rule-preserved
loop-rule-preserved c =
    let most : c.max-most.result ≡ max c.loop-rule.most c.depth.result = search rules in
    needs_more c.args.rules.now c.loop-rule.rule-index c.rule-item.result c.loop-rule.most c.max-most.result c.loop-rule-test.true c.rule-item.is c.loop-rule.invariant (omega (arith, most)) (omega (arith, most, c.depth.ensures))
