use Rattle.std.proofs.Common.{rules, ◌≤◌, ◌*ℤ◌, arith, FitsSigned, w64}
use Rattle.std.specs.Int.RustNames.{unsigned_abs}
use Rattle.std.proofs.lemmas.Int.{ints, to_z-of_z}
use Rattle.cell_reach.proofs.Differences.{wholes_fit, parts_fit}
use Rattle.cell_reach.proofs.strides.with_part.Goals as goal

pub overflow_mul-result : goal.overflow_mul-result
overflow_mul-result c =
    let whole : FitsSigned w64 c.args.wholes = search rules in
    let size : FitsSigned w64 c.from.result = search rules in
    rw (to_z-of_z w64 c.args.wholes whole, to_z-of_z w64 c.from.result size) (wholes_fit c.args.wholes c.from.result c.args.size c.requires.wholes c.from.ensures c.requires.size)

pub overflow_add-result : goal.overflow_add-result
overflow_add-result c =
    let whole : FitsSigned w64 c.args.wholes = search rules in
    let size : FitsSigned w64 c.from.result = search rules in
    let part : FitsSigned w64 c.from-2.result = search rules in
    let product = wholes_fit c.args.wholes c.from.result c.args.size c.requires.wholes c.from.ensures c.requires.size in
    let few : unsigned_abs c.from-2.result ≤ 32768 = omega (arith, ints, c.from-2.ensures) in
    rw (to_z-of_z w64 c.args.wholes whole, to_z-of_z w64 c.from.result size, to_z-of_z w64 (c.args.wholes *ℤ c.from.result) product, to_z-of_z w64 c.from-2.result part)
    (parts_fit c.args.wholes c.from.result c.from-2.result c.args.size c.requires.wholes c.from.ensures c.requires.size few)
