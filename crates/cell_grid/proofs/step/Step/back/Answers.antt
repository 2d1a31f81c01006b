use Rattle.std.proofs.Common.{arith, rules, FitsSigned, w8}
use Rattle.std.proofs.lemmas.Int.{ints}
use Rattle.cell_grid.proofs.Opposites.{opposite-from_parts}
use Rattle.cell_grid.proofs.step.Step.back.Goals as goal

pub returns : goal.returns
returns c =
    let row : FitsSigned w8 c.args.offset.row = search rules in
    let column : FitsSigned w8 c.args.offset.column = search rules in
    let plane : FitsSigned w8 c.args.offset.plane = search rules in
    opposite-from_parts c.args.offset _ (omega (arith, ints)) (omega (arith, ints)) (omega (arith, ints))
