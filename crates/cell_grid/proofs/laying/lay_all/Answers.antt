use Rattle.std.proofs.Common.{◌-◌, get_or, arith}
use Rattle.std.specs.List.{list_any}
use Rattle.cell_grid.specs.declared.zones.Zone.{Zone}
use Rattle.cell_grid.specs.Space.{place_of}
use Rattle.cell_grid.specs.Zones.{range_holds}
use Rattle.cell_grid.proofs.Laid.{no-zones, zone-laid, all-zones}
use Rattle.cell_grid.proofs.laying.lay_all.Goals as goal

pub zones-init : goal.zones-init
zones-init c = record {
  few = omega arith;
  laid = λ cell lt. no-zones (λ (zone : Zone). list_any (range_holds (place_of c.args.grid.now cell)) zone.ranges.items) c.args.zones.now c.args.numbers.now _ (get_or c.args.into.now cell 0) (omega arith);
}

pub zones-preserved : goal.zones-preserved
zones-preserved c = record {
  few = omega (arith, c.zones.invariant.few);
  laid = λ cell lt.
      zone-laid (λ (zone : Zone). list_any (range_holds (place_of c.args.grid.now cell)) zone.ranges.items) c.args.zones.now c.args.numbers.now c.zones.left (c.zones.left - 1) (get_or c.args.into.now cell 0) (get_or c.zones.into cell 0) (get_or c.lay_at.new.into cell 0)
      (omega (arith, c.zones-test.true)) c.zones.invariant.few (c.zones.invariant.laid cell lt) (λ d. c.lay_at.ensures d cell lt);
}

pub returns : goal.returns
returns c = λ cell lt.
    all-zones (λ (zone : Zone). list_any (range_holds (place_of c.args.grid.now cell)) zone.ranges.items) c.args.zones.now c.args.numbers.now c.zones.left (get_or c.args.into.now cell 0) (get_or c.zones.into cell 0)
    (omega (arith, c.zones-test.false)) (c.zones.invariant.laid cell lt)
