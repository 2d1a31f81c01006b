use Rattle.std.proofs.Common.{◌≤◌, arith}
use Rattle.quantity.proofs.DigitLemmas.{below_18, digit_at, number_in-more, one_digit_more}
use Rattle.state_lines.proofs.literal.number_in.Goals as goal

pub overflow_mul-number : goal.overflow_mul-number
overflow_mul-number c =
    let few : c.loop-digit.digit-index ≤ 18 = omega arith in
    omega (
      arith,
      below_18 c.loop-digit.number c.loop-digit.digit-index c.loop-digit.invariant.1
          few,
    )

pub overflow_sub-digit : goal.overflow_sub-digit
overflow_sub-digit c =
    (digit_at c.args.digits.now c.loop-digit.digit-index c.requires.digits c.loop-digit-test.true).0

pub overflow_add-number : goal.overflow_add-number
overflow_add-number c =
    let few : c.loop-digit.digit-index ≤ 18 = omega arith in
    let digit = digit_at c.args.digits.now c.loop-digit.digit-index c.requires.digits
    c.loop-digit-test.true in
    omega (
      arith,
      digit,
      below_18 c.loop-digit.number c.loop-digit.digit-index
          c.loop-digit.invariant.1 few,
    )

pub loop-digit-preserved : goal.loop-digit-preserved
loop-digit-preserved c =
    let digit = digit_at c.args.digits.now c.loop-digit.digit-index c.requires.digits
    c.loop-digit-test.true in
    let small : c.from.result ≤ 9 = omega (arith, digit) in (
      number_in-more c.args.digits.now c.loop-digit.digit-index c.loop-digit.number c.from.result
          c.loop-digit-test.true c.loop-digit.invariant.0 c.from.ensures,
      one_digit_more c.loop-digit.number c.loop-digit.digit-index c.from.result
          c.loop-digit.invariant.1 small,
    )
