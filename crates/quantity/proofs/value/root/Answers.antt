use Rattle.std.proofs.Common.{◌*◌, ◌+◌, ◌<◌, ◌≤◌, ◌^◌, arith}
use Rattle.quantity.proofs.Roots.{root_digits-is}
use Rattle.quantity.proofs.value.root.Goals as goal

pub returns-clause-computed : goal.returns-clause-computed
returns-clause-computed c =
    let small : c.args.raw * 100000 < 2 ^ 34 * 2 ^ 34 = omega arith in
    let r = c.isqrt.result in
    let within : r * r ≤ c.args.raw * 100000 = omega arith in
    let next : c.args.raw * 100000 < (r + 1) * (r + 1) = omega arith in
    root_digits-is 34 (c.args.raw * 100000) r small within next
