use Rattle.std.proofs.Common.{◌/◌, ◌<◌, ◌^◌, lit<, arith}
use Rattle.std.proofs.lemmas.Fmt.{length-decimal-le}
use Rattle.std.proofs.lemmas.Grind.{common_steps}
use Rattle.quantity.proofs.time.Time.short_text.Goals as goal

pub put_number-requires : goal.put_number-requires
put_number-requires c =
    let hours = c.from-ms.result / 3600000 in
    let few : hours < 10 ^ 3 = omega arith in
    grind (arith, common_steps, length-decimal-le 3 hours (lit< tt) few (omega arith))
