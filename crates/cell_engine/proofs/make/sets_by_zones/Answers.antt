use Rattle.std.proofs.Common.{◌≡◌, ◌∙◌, get_or, replicate, ap, rules}
use Rattle.std.proofs.lemmas.List.{with_items_is}
use Rattle.cell_grid.specs.Numbered.{zone_number}
use Rattle.cell_grid.specs.Space.{cell_count}
use Rattle.cell_grid.specs.Zones.{zone_of}
use Rattle.model_tree.specs.Stands.{group_of}
use Rattle.cell_engine.proofs.Planned.{laid-sets}
use Rattle.cell_engine.proofs.make.sets_by_zones.Goals as goal

pub returns : goal.returns
returns c =
    let g = group_of c.args.group.now in
    let zeros : c.in_ok-sets.sets.items ≡ replicate (cell_count g.space) 0 = search rules in
    let items = with_items_is c.in_ok-sets.sets c.lay.new.into (c.lay.auto.into ∙ c.deref_mut.ensures.len) in
    items
    ∙ laid-sets g c.deref_mut.result.now c.lay.new.into (c.deref_mut.ensures.value ∙ zeros) c.lay.auto.into
    (λ cell lt. c.lay.ensures cell lt ∙ ap (λ ns. zone_number ns (get_or c.deref_mut.result.now cell 0) (zone_of g.zones g.space cell)) c.deref.ensures.value)
