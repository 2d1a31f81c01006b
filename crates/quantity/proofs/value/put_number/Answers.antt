use Rattle.std.proofs.Common.{◌/◌, ◌≤◌, ◌^◌, arith, rules, decimal}
use Rattle.quantity.proofs.Lengths.{whole_part_short, short_in_front}
use Rattle.quantity.proofs.value.put_number.Goals as goal

pub put_number-requires : goal.put_number-requires
put_number-requires c =
    let small : c.unsigned_abs.result ≤ 10 ^ 15 = search rules in
    let whole = whole_part_short c.unsigned_abs.result c.power_of_ten.result c.power_of_ten-2.result small in
    omega arith

pub put_byte-requires : goal.put_byte-requires
put_byte-requires c =
    let small : c.unsigned_abs.result ≤ 10 ^ 15 = search rules in
    let whole = whole_part_short c.unsigned_abs.result c.power_of_ten.result c.power_of_ten-2.result small in
    short_in_front c.put_number.new.self (decimal (c.unsigned_abs.result / c.power_of_ten.result / c.power_of_ten-2.result)) c.put_fraction.new.text c.put_number.ensures whole c.put_fraction.ensures.short
