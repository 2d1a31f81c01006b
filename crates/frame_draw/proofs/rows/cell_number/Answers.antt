use Rattle.std.proofs.Common.{arith}
use Rattle.frame_draw.proofs.Numbers.{number_is, number_within}
use Rattle.frame_draw.proofs.rows.cell_number.Goals as goal

pub overflow_mul-result : goal.overflow_mul-result
overflow_mul-result c =
    let is = number_is c.args.plane.now c.args.row c.args.column c.args.cells.now c.requires.cells in
    let lt = number_within c.args.plane.now c.args.values.now c.args.row c.args.column c.requires.picture c.requires.row c.requires.column in
    omega (arith, is, lt)

pub overflow_add-result : goal.overflow_add-result
overflow_add-result c =
    let is = number_is c.args.plane.now c.args.row c.args.column c.args.cells.now c.requires.cells in
    let lt = number_within c.args.plane.now c.args.values.now c.args.row c.args.column c.requires.picture c.requires.row c.requires.column in
    omega (arith, is, lt)

pub returns : goal.returns
returns c =
    let is = number_is c.args.plane.now c.args.row c.args.column c.args.cells.now c.requires.cells in
    let lt = number_within c.args.plane.now c.args.values.now c.args.row c.args.column c.requires.picture c.requires.row c.requires.column in
    record { value = is; inside = omega (arith, is, lt) }
