use Rattle.std.proofs.Common.{arith}
use Rattle.run_loop.proofs.Cycles.{taken_next, taken_all}
use Rattle.run_loop.proofs.drawn.Drawn.take.Goals as goal

pub loop-one-preserved : goal.loop-one-preserved
loop-one-preserved c = record {
  taken = taken_next c.args.at c.args.given.now c.loop-one.one-index c.one-item.result c.loop-one.self _ _ c.loop-one-test.true c.one-item.is c.take_one.ensures.value c.loop-one.invariant.taken;
  begun = c.take_one.ensures.begun;
}

pub returns : goal.returns
returns c = taken_all c.args.at c.args.given.now c.loop-one.one-index c.loop-one.self _ (omega arith) c.loop-one.invariant.taken
