use Rattle.std.proofs.Common.{◌∙◌, ap, arith}
use Rattle.quantity.specs.declared.place.Place.{Place}
use Rattle.cell_grid.proofs.Laid.{number_at, ahead, nothing-laid, all-laid, cell-laid}
use Rattle.cell_grid.proofs.laying.lay_part.Goals as goal

pub overflow_add-row : goal.overflow_add-row
overflow_add-row c = omega (arith, c.position-place.ensures.inside.0, c.requires.fits.rows, c.requires.rows)

pub overflow_add-low : goal.overflow_add-low
overflow_add-low c = omega (arith, c.position-place.ensures.inside.1, c.requires.fits.columns, c.requires.columns)

pub overflow_add-low-in-loop-k : goal.overflow_add-low-in-loop-k
overflow_add-low-in-loop-k c = omega (arith, c.position-place.ensures.inside.2, c.requires.fits.planes, c.requires.planes)

pub loop-k-init : goal.loop-k-init
loop-k-init c = nothing-laid c.args.part.now c.args.grid.now c.args.low c.args.number c.args.into.now

pub loop-k-preserved : goal.loop-k-preserved
loop-k-preserved c =
    let s = c.args.grid.now in
    cell-laid c.args.part.now s c.args.low c.args.number c.loop-k.k c.number-cell.result c.args.into.now c.loop-k.into c.requires.fits
    (omega (arith, c.loop-k-test.true, c.cells-k-end.ensures.value))
    (c.number-cell.ensures.value ∙ ap (λ (p : Place). number_at s (ahead c.args.low p)) c.position-place.ensures.value)
    (c.loop-k.auto.into ∙ c.requires.cells) c.loop-k.invariant

pub returns : goal.returns
returns c =
    all-laid c.args.part.now c.args.grid.now c.args.low c.args.number c.loop-k.k c.args.into.now c.loop-k.into (omega (arith, c.loop-k-test.false, c.cells-k-end.ensures.value)) c.loop-k.invariant
