use Rattle.std.proofs.Common.{Some, subst, arith}
use Rattle.cell_grid.specs.Space.{Space}
use Rattle.cell_grid.specs.declared.grid.Border.TheVariants.{NoWrapped}
use Rattle.cell_grid.specs.Laying.{Lays, in_part}
use Rattle.cell_grid.proofs.Laid.{none-held, range-laid}
use Rattle.cell_grid.proofs.laying.lay_range.Goals as goal

pub returns-in_default : goal.returns-in_default
returns-in_default c =
    let s = c.args.grid.now in
    let part : Space = record { rows = c.span-rows.result; columns = c.span-columns.result; planes = Some c.span-planes.result; border = NoWrapped } in
    none-held part s c.args.corners.0 c.args.corners.1 c.args.number c.args.into.now c.in_default.ensures (omega (arith, c.cells-most.ensures.value, c.cells-most.ensures.bounded))
    (omega (arith, c.span-rows.ensures.few, c.rows.ensures.value)) (omega (arith, c.span-columns.ensures.few, c.columns.ensures.value)) (omega (arith, c.span-planes.ensures.few, c.planes.ensures.value))
    (λ n lt. c.span-rows.ensures.same n (omega (arith, lt, c.rows.ensures.value)))
    (λ n lt. c.span-columns.ensures.same n (omega (arith, lt, c.columns.ensures.value)))
    (λ n lt. c.span-planes.ensures.same n (omega (arith, lt, c.planes.ensures.value)))

pub returns : goal.returns
returns c =
    let s = c.args.grid.now in
    let part : Space = record { rows = c.span-rows.result; columns = c.span-columns.result; planes = Some c.span-planes.result; border = NoWrapped } in
    range-laid part s c.args.corners.0 c.args.corners.1 c.args.number c.args.into.now c.lay_part.new.into
    (λ n lt. c.span-rows.ensures.same n (omega (arith, lt, c.rows.ensures.value)))
    (λ n lt. c.span-columns.ensures.same n (omega (arith, lt, c.columns.ensures.value)))
    (λ n lt. c.span-planes.ensures.same n (omega (arith, lt, c.planes.ensures.value)))
    (subst (λ (x : Space). Lays (in_part x c.args.corners.0) c.args.number s c.args.into.now c.lay_part.new.into) c.in-Some.ensures.1 c.lay_part.ensures)
