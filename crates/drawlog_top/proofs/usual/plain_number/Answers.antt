use Rattle.std.proofs.Common.{◌≡◌, ◌≤◌, Some, arith}
use Rattle.quantity.specs.Digits.{whole_number}
use Rattle.drawlog_top.proofs.UsualForms.{plain_read}
use Rattle.drawlog_top.proofs.usual.plain_number.Goals as goal

pub returns : goal.returns
returns c =
    let n = c.in_ok-number.field-0 in
    let le : n ≤ 1048575 = omega arith in
    let read : Some n ≡ whole_number 7 c.args.text.now = c.in_ok-number.ensures.value in
    (omega arith, plain_read c.args.text.now n read (c.has_zero_in_front.ensures c.if-has_zero_in_front.false) le)
