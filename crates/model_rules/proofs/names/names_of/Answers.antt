use Rattle.model_rules.proofs.Whole.{names_next}
use Rattle.model_rules.proofs.names.names_of.Goals as goal

pub loop-item-preserved : goal.loop-item-preserved
loop-item-preserved c = names_next c.args.items.now c.loop-item.item-index _ c.loop-item.names.keys c.in-Ok.ensures.keys c.loop-item-test.true c.loop-item.invariant
