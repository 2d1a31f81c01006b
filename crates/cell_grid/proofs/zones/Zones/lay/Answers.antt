use Rattle.std.proofs.Common.{ap, sym, ◌∙◌, get_or, cond, None}
use Rattle.std.proofs.lemmas.Bool.{lt-ltb}
use Rattle.std.specs.List.{list_any, position}
use Rattle.cell_grid.specs.InCode.{region_of}
use Rattle.cell_grid.specs.Space.{cell_count, place_of}
use Rattle.cell_grid.specs.Zones.{range_holds, zone_holds}
use Rattle.cell_grid.specs.Numbered.{zone_number}
use Rattle.cell_grid.proofs.ZoneLemmas.{position-map}
use Rattle.cell_grid.proofs.zones.Zones.lay.Goals as goal

pub returns : goal.returns
returns c = λ cell lt.
    let s = c.args.grid.now in
    let p = place_of s cell in
    let other = get_or c.args.into.now cell 0 in
    c.lay_all.ensures cell lt
    ∙ ap (λ zones. zone_number c.args.numbers.now other (position (λ zone. list_any (range_holds p) zone.ranges.items) zones)) c.deref.ensures.value
    ∙ ap (zone_number c.args.numbers.now other) (position-map (zone_holds p) region_of c.self.inside.0.items ∙ ap (position (zone_holds p)) c.self.view_is)
    ∙ ap (λ b. zone_number c.args.numbers.now other (cond b (position (zone_holds p) c.args.self.now) None)) (sym (lt-ltb cell (cell_count s) lt))
