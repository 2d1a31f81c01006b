use Rattle.model_keys.proofs.Parts.{word_step}
use Rattle.model_keys.proofs.again.repeated.Goals as goal

pub loop-item-preserved : goal.loop-item-preserved
loop-item-preserved c =
    word_step c.deref-item-items.result.now c.loop-item.item-index _ c.loop-item.seen c.insert.new.self c.in_ok-is_new.is_new _ _ _ c.loop-item-test.true
    c.in_ok-is_new.ensures.is_new c.in_ok-is_new.ensures.added c.refused_if.ensures c.least-first.ensures c.loop-item.invariant
