use Rattle.std.proofs.Common.{arith}
use Rattle.cell_grid.proofs.Places.{in_plane-few, number-few, number-is, number-within}
use Rattle.cell_grid.proofs.grid.Grid.number.Goals as goal

pub overflow_mul-result : goal.overflow_mul-result
overflow_mul-result c = omega (arith, in_plane-few _ _ c.self.view_is c.self.invariant c.args.row c.args.column c.args.plane c.requires.row c.requires.column c.requires.plane)

pub overflow_add-result : goal.overflow_add-result
overflow_add-result c = omega (arith, in_plane-few _ _ c.self.view_is c.self.invariant c.args.row c.args.column c.args.plane c.requires.row c.requires.column c.requires.plane)

pub overflow_mul-result-2 : goal.overflow_mul-result-2
overflow_mul-result-2 c =
    omega (arith, number-few _ _ c.self.view_is c.self.invariant c.args.row c.args.column c.args.plane c.requires.row c.requires.column c.requires.plane c.planes.result c.planes.ensures.value)

pub overflow_add-result-2 : goal.overflow_add-result-2
overflow_add-result-2 c =
    omega (arith, number-few _ _ c.self.view_is c.self.invariant c.args.row c.args.column c.args.plane c.requires.row c.requires.column c.requires.plane c.planes.result c.planes.ensures.value)

pub returns-clause-value : goal.returns-clause-value
returns-clause-value c = number-is _ _ c.self.view_is c.self.invariant c.args.row c.args.column c.args.plane c.requires.row c.requires.column c.requires.plane c.planes.result c.planes.ensures.value

pub returns-clause-inside : goal.returns-clause-inside
returns-clause-inside c =
    number-within _ _ c.self.view_is c.self.invariant c.args.row c.args.column c.args.plane c.requires.row c.requires.column c.requires.plane c.planes.result c.planes.ensures.value
