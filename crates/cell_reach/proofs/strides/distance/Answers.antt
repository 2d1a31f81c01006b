use Rattle.std.proofs.Common.{rules, ◌≤◌, arith, FitsSigned, w16, w64, to_z, of_z}
use Rattle.std.specs.Int.RustNames.{unsigned_abs}
use Rattle.std.proofs.lemmas.Int.{ints}
use Rattle.cell_reach.proofs.Differences.{few_wholes}
use Rattle.cell_reach.proofs.strides.distance.Goals as goal

pub with_part-requires-clause-wholes : goal.with_part-requires-clause-wholes
with_part-requires-clause-wholes c =
    let row : FitsSigned w16 c.args.step.rows = search rules in
    let column : FitsSigned w16 c.args.step.columns = search rules in
    let fits = c.with_part-lines.type_inv in
    let few : unsigned_abs c.with_part-lines.result ≤ 68719476736 =
    few_wholes (to_z w64 (of_z w64 c.from-rows.result)) c.columns.result (to_z w16 (of_z w16 c.args.step.columns)) c.with_part-lines.result (omega (arith, ints)) (omega arith) (omega (arith, ints)) c.with_part-lines.ensures in
    omega (arith, ints)
