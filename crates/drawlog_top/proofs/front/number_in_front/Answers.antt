use Rattle.std.proofs.Common.{◌+◌, ◌*◌, ◌∙◌, arith}
use Rattle.drawlog_top.proofs.FrontPieces.{digit_more, one_digit, zero_in_front}
use Rattle.drawlog_top.proofs.front.number_in_front.Goals as goal

pub returns-then-first-eq0 : goal.returns-then-first-eq0
returns-then-first-eq0 c = (omega arith, zero_in_front c.in_ok-first.first c.args.text.now c.in_ok-first.behind.now c.if-first-eq0.true c.in_ok-first.ensures.0 c.in_ok-first.ensures.1)

pub returns-in_default : goal.returns-in_default
returns-in_default c =
    let lt = c.in_ok-first.ensures.0 in
    (omega (arith, lt), one_digit c.in_ok-first.first c.args.text.now c.in_ok-first.behind.now lt c.in_ok-first.ensures.1)

pub returns-in_default-digit_in_front : goal.returns-in_default-digit_in_front
returns-in_default-digit_in_front c =
    let first = c.in_ok-first in
    let second = c.in-Some in
    let lt = first.ensures.0 in
    let lt_two = second.ensures.0 in (
      omega (arith, lt, lt_two),
      one_digit first.first c.args.text.now first.behind.now lt first.ensures.1
          ∙ digit_more first.first second.second first.behind.now second.behind_two.now (omega arith) (omega (arith, lt)) lt_two second.ensures.1,
    )

pub returns-in_default-digit_in_front-2 : goal.returns-in_default-digit_in_front-2
returns-in_default-digit_in_front-2 c =
    let first = c.in_ok-first in
    let second = c.in-Some in
    let third = c.in-Some-digit_in_front in
    let lt = first.ensures.0 in
    let lt_two = second.ensures.0 in
    let lt_three = third.ensures.0 in
    let two = first.first * 10 + second.second in (
      omega (arith, lt, lt_two, lt_three),
      one_digit first.first c.args.text.now first.behind.now lt first.ensures.1
          ∙ digit_more first.first second.second first.behind.now second.behind_two.now (omega arith) (omega (arith, lt)) lt_two second.ensures.1
          ∙ digit_more two third.third second.behind_two.now third.behind_three.now (omega arith) (omega (arith, lt, lt_two)) lt_three third.ensures.1,
    )

pub returns : goal.returns
returns c =
    let first = c.in_ok-first in
    let second = c.in-Some in
    let third = c.in-Some-digit_in_front in
    let fourth = c.in-Some-digit_in_front-2 in
    let lt = first.ensures.0 in
    let lt_two = second.ensures.0 in
    let lt_three = third.ensures.0 in
    let lt_four = fourth.ensures.0 in
    let two = first.first * 10 + second.second in
    let three = two * 10 + third.third in (
      omega (arith, lt, lt_two, lt_three, lt_four),
      one_digit first.first c.args.text.now first.behind.now lt first.ensures.1
          ∙ digit_more first.first second.second first.behind.now second.behind_two.now (omega arith) (omega (arith, lt)) lt_two second.ensures.1
          ∙ digit_more two third.third second.behind_two.now third.behind_three.now (omega arith) (omega (arith, lt, lt_two)) lt_three third.ensures.1
          ∙ digit_more three fourth.fourth third.behind_three.now fourth.behind_four.now (omega arith) (omega (arith, lt, lt_two, lt_three)) lt_four fourth.ensures.1,
    )
