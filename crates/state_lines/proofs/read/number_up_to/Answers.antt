use Rattle.std.proofs.Common.{◌+◌, ◌*◌, arith, sym, ◌∙◌}
use Rattle.state_lines.proofs.Taken.{counted, too_large}
use Rattle.state_lines.proofs.read.number_up_to.Goals as goal

pub returns-then-number-most-clause-value : goal.returns-then-number-most-clause-value
returns-then-number-most-clause-value c =
    let was = c.loop-digit.invariant in
    let more = counted c.args.text.now c.loop-digit.digit-index c.loop-digit.number c.from.result
    c.loop-digit-test.true was.digits was.value (sym c.is_digit.ensures
    ∙ c.if-not-is_digit.false) c.from.ensures in
    too_large c.args.most (c.loop-digit.number * 10 + c.from.result) (c.loop-digit.digit-index + 1)
    c.args.text.now c.if-number-most.true more.value

pub loop-digit-preserved : goal.loop-digit-preserved
loop-digit-preserved c =
    let was = c.loop-digit.invariant in
    let more = counted c.args.text.now c.loop-digit.digit-index c.loop-digit.number c.from.result
    c.loop-digit-test.true was.digits was.value (sym c.is_digit.ensures
    ∙ c.if-not-is_digit.false) c.from.ensures in
    record {
      digits = more.digits;
      value = more.value;
      small = omega (arith, c.if-number-most.false);
    }
