use Rattle.std.proofs.Common.{◌+◌, arith, true, false, sym, ◌∙◌}
use Rattle.std.proofs.lemmas.Int.{ints}
use Rattle.quantity.proofs.DigitLemmas.{below_more}
use Rattle.quantity.proofs.LiteralLemmas.{signed_raw-is}
use Rattle.state_lines.proofs.literal.signed_raw.Goals as goal

pub overflow_cast-raw : goal.overflow_cast-raw
overflow_cast-raw c =
    let small = below_more c.in_ok-size.size (c.args.most + 5) 16 c.in_ok-size.ensures.below
    (omega arith) in
    omega (arith, ints)

pub overflow_sub-result : goal.overflow_sub-result
overflow_sub-result c =
    let small = below_more c.in_ok-size.size (c.args.most + 5) 16 c.in_ok-size.ensures.below
    (omega arith) in
    omega (arith, ints)

pub returns-then-is_negative-clause-value : goal.returns-then-is_negative-clause-value
returns-then-is_negative-clause-value c =
    let small = below_more c.in_ok-size.size (c.args.most + 5) 16 c.in_ok-size.ensures.below
    (omega arith) in
    signed_raw-is c.args.most c.args.text.now c.without_sign.result.now c.in_ok-size.size _ true
    (sym c.unsigned_raw.ensures.value ∙ c.in_ok-size.was) c.without_sign.ensures
    (sym c.is_negative.ensures ∙ c.if-is_negative.true) (omega (arith, ints))

pub returns-else-is_negative-clause-value : goal.returns-else-is_negative-clause-value
returns-else-is_negative-clause-value c =
    let small = below_more c.in_ok-size.size (c.args.most + 5) 16 c.in_ok-size.ensures.below
    (omega arith) in
    signed_raw-is c.args.most c.args.text.now c.without_sign.result.now c.in_ok-size.size _ false
    (sym c.unsigned_raw.ensures.value ∙ c.in_ok-size.was) c.without_sign.ensures
    (sym c.is_negative.ensures ∙ c.if-is_negative.false) (omega (arith, ints))
