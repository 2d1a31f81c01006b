use Rattle.std.proofs.Common.{ap, ◌∙◌, arith}
use Rattle.std.proofs.lemmas.Bool.{lt-ltb}
use Rattle.std.specs.List.{list_any, position}
use Rattle.cell_grid.specs.InCode.{region_of}
use Rattle.cell_grid.specs.Space.{cell_count}
use Rattle.cell_grid.specs.Zones.{range_holds, zone_holds}
use Rattle.cell_grid.proofs.ZoneLemmas.{position-map}
use Rattle.cell_grid.proofs.zones.Zones.rules_of.Goals as goal

pub returns : goal.returns
returns c =
    rw (lt-ltb c.args.cell (cell_count c.args.grid.now) (omega (arith, c.cells.ensures.value)))
    (c.first_holder.ensures ∙ ap (λ zones. position (λ zone. list_any (range_holds c.position.result) zone.ranges.items) zones) c.deref.ensures.value
    ∙ position-map (zone_holds c.position.result) region_of c.self.inside.0.items ∙ ap (position (zone_holds c.position.result)) c.self.view_is
    ∙ ap (λ place. position (zone_holds place) c.args.self.now) c.position.ensures.value)
