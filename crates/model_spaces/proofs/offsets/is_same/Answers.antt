use Rattle.std.proofs.Common.{◌≡◌, rules}
use Rattle.std.specs.Prelude.{◌&&◌, ◌-ℤ◌}
use Rattle.quantity.specs.Arithmetic.{is_zero}
use Rattle.model_spaces.proofs.offsets.is_same.Goals as goal

pub returns : goal.returns
returns c =
    let row : c.is_same_step.result ≡ is_zero (c.args.a.row -ℤ c.args.b.row) = search rules in
    let column : c.is_same_step-2.result ≡ is_zero (c.args.a.column -ℤ c.args.b.column) = search rules in
    let plane : c.is_same_step-3.result ≡ is_zero (c.args.a.plane -ℤ c.args.b.plane) = search rules in
    λ i. (row i && column i) && plane i
