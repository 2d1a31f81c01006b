use Rattle.std.proofs.Common.{◌<◌, ◌≤◌, ◌/◌, decimal, sym, arith}
use Rattle.std.proofs.lemmas.Fmt.{decimal_digit}
use Rattle.text_forms.proofs.Placing.{placed_as, placed_then, three_at_most, three_digits, two_at_most}
use Rattle.text_forms.proofs.placed.write_number.Goals as goal

pub returns-then-number-lt10-clause-text : goal.returns-then-number-lt10-clause-text
returns-then-number-lt10-clause-text c =
    placed_as c.args.bytes.now c.write_byte.new.bytes c.args.at c.write_byte.result _ (decimal c.args.number)
    (sym (decimal_digit c.args.number c.if-number-lt10.true)) c.write_byte.ensures

pub returns-then-number-lt100-clause-near : goal.returns-then-number-lt100-clause-near
returns-then-number-lt100-clause-near c =
    let few = three_at_most c.args.number c.requires.small in
    let moved = c.write_two.ensures.moved in
    omega (arith, few, moved)

pub write_byte-requires-2 : goal.write_byte-requires-2
write_byte-requires-2 c =
    let small : c.args.number / 10 < 100 = omega (arith, c.requires.small) in
    let few = two_at_most (c.args.number / 10) small in
    let moved = c.write_two-last.ensures.moved in
    let len = c.write_two-last.ensures.len in
    let room = c.requires.room in
    omega (arith, few, moved, len, room)

pub returns-clause-text : goal.returns-clause-text
returns-clause-text c =
    let some : 100 ≤ c.args.number = omega (arith, c.if-number-lt100.false) in
    placed_as c.args.bytes.now c.write_byte-2.new.bytes c.args.at c.write_byte-2.result _ (decimal c.args.number)
    (three_digits c.args.number some c.requires.small)
    (placed_then c.args.bytes.now c.write_two-last.new.bytes c.write_byte-2.new.bytes c.args.at c.write_two-last.result c.write_byte-2.result _ _
    c.write_two-last.ensures c.write_byte-2.ensures)

pub returns-clause-near : goal.returns-clause-near
returns-clause-near c =
    let small : c.args.number / 10 < 100 = omega (arith, c.requires.small) in
    let few = two_at_most (c.args.number / 10) small in
    let moved = c.write_two-last.ensures.moved in
    let last = c.write_byte-2.ensures.moved in
    omega (arith, few, moved, last)
