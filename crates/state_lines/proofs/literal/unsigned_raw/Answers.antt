use Rattle.std.proofs.Common.{◌≤◌, arith, length}
use Rattle.quantity.proofs.DigitLemmas.{below_more, with_decimals}
use Rattle.state_lines.proofs.literal.unsigned_raw.Goals as goal

pub overflow_mul-result : goal.overflow_mul-result
overflow_mul-result c =
    let short = c.is_number.ensures.short c.if-not-is_number.false in
    let few : length c.cut_at.result.0.now ≤ 11 = omega (arith, short) in
    omega (
      arith,
      below_more c.number_in.result (length c.cut_at.result.0.now) 11
          c.number_in.ensures.below few,
    )

pub overflow_add-result : goal.overflow_add-result
overflow_add-result c =
    let short = c.is_number.ensures.short c.if-not-is_number.false in
    let few : length c.cut_at.result.0.now ≤ 11 = omega (arith, short) in
    omega (
      arith,
      below_more c.number_in.result (length c.cut_at.result.0.now) 11
          c.number_in.ensures.below few,
    )

pub returns-clause-below : goal.returns-clause-below
returns-clause-below c =
    with_decimals c.args.most (length c.cut_at.result.0.now) c.number_in.result
    c.hundred_thousandths.result c.number_in.ensures.below
    (c.is_number.ensures.short c.if-not-is_number.false) c.hundred_thousandths.ensures.below
