use Rattle.std.proofs.Common.{arith}
use Rattle.atomic_kinds.specs.Counter.{counter_settings, with_total}
use Rattle.atomic_kinds.proofs.Steps.{all_counted, input_counted}
use Rattle.atomic_kinds.proofs.counter.CounterModel.total_after.Goals as goal

pub loop-input-preserved : goal.loop-input-preserved
loop-input-preserved c = λ due.
    input_counted (counter_settings c.args.self.now) (with_total due c.loop-input.total) c.args.bag.now c.loop-input.input-index _ (with_total due c.in_ok-total.total) _ c.input-item.result c.loop-input-test.true c.input-item.is
    (c.in_ok-total.ensures due) (c.loop-input.invariant due)

pub returns : goal.returns
returns c = λ due.
    all_counted (counter_settings c.args.self.now) (with_total due c.loop-input.total) c.args.bag.now c.loop-input.input-index _ (omega arith) (c.loop-input.invariant due)
