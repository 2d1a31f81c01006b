use Rattle.std.proofs.Common.{◌∙◌, get_or, cond, ap, refl}
use Rattle.std.specs.List.{list_any}
use Rattle.std.proofs.lemmas.List.{take_all, get_or_default}
use Rattle.quantity.specs.declared.place.Place.{Place}
use Rattle.cell_grid.specs.Space.{place_of}
use Rattle.cell_grid.specs.Zones.{range_holds}
use Rattle.cell_grid.proofs.Laid.{ranges-laid}
use Rattle.cell_grid.proofs.laying.lay_zone.Goals as goal

abbrev nowhere : Place × Place
nowhere = (record { row = 0; column = 0; plane = 0 }, record { row = 0; column = 0; plane = 0 })

pub loop-corners-init : goal.loop-corners-init
loop-corners-init c = λ cell lt. refl

pub loop-corners-preserved : goal.loop-corners-preserved
loop-corners-preserved c =
    let corners = get_or c.args.ranges.now c.loop-corners.corners-index nowhere in
    ranges-laid c.args.ranges.now c.loop-corners.corners-index corners c.args.grid.now c.args.number c.args.into.now c.loop-corners.into c.lay_range.new.into c.loop-corners-test.true (get_or_default c.args.ranges.now c.loop-corners.corners-index nowhere corners c.loop-corners-test.true) c.loop-corners.invariant c.lay_range.ensures

pub returns : goal.returns
returns c = λ cell lt.
    c.loop-corners.invariant cell lt
    ∙ ap (λ ranges. cond (list_any (range_holds (place_of c.args.grid.now cell)) ranges) c.args.number (get_or c.args.into.now cell 0)) (take_all c.loop-corners.corners-index c.args.ranges.now c.loop-corners-test.false)
