use Rattle.asked_words.proofs.Lowered.{one_more, all_lowered}
use Rattle.asked_words.proofs.values.lowered.Goals as goal

pub loop-c-preserved : goal.loop-c-preserved
loop-c-preserved c = one_more c.loop-c.low.items _ c.args.text.now c.loop-c.c-index c.loop-c-test.true c.in_ok-push_lower.ensures c.loop-c.invariant

pub returns : goal.returns
returns c = all_lowered c.loop-c.low.items c.args.text.now c.loop-c.c-index c.loop-c-test.false c.loop-c.invariant
