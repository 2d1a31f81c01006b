use Rattle.std.proofs.Common.{arith}
use Rattle.run_leaves.proofs.MovedOn.{moved-more, nothing-moved}
use Rattle.run_leaves.proofs.blocks.move_on.Goals as goal

pub loop-number-preserved : goal.loop-number-preserved
loop-number-preserved c =
    moved-more c.args.by c.args.numbers.now c.loop-number.numbers c.loop-number.number-index (omega (arith, c.loop-number-test.true)) c.loop-number.auto.numbers c.loop-number.invariant

pub returns-then-by-eq0 : goal.returns-then-by-eq0
returns-then-by-eq0 c = nothing-moved c.args.by c.args.numbers.now c.if-by-eq0.true
