use Rattle.std.proofs.Common.{◌≡◌, ◌-◌, ◌<◌, ◌≤◌, arith, rules, get_or}
use Rattle.quantity.proofs.DigitLemmas.{decimal_more, digit_or_zero, one_digit_more}
use Rattle.state_lines.proofs.literal.hundred_thousandths.Goals as goal

pub loop-place-preserved : goal.loop-place-preserved
loop-place-preserved c =
    let digit = digit_or_zero c.args.decimals.now c.loop-place.place c.requires in
    let place : c.loop-place.place < 5 = omega arith in
    let is : c.from.result ≡ get_or c.args.decimals.now c.loop-place.place 48 - 48 = search rules in
    let small : c.from.result ≤ 9 = omega (arith, digit) in (
      decimal_more c.args.decimals.now c.loop-place.place c.loop-place.number c.from.result place
          c.loop-place.invariant.0 is,
      one_digit_more c.loop-place.number c.loop-place.place c.from.result c.loop-place.invariant.1
          small,
    )
