use Rattle.std.proofs.Common.{List, map, ap, sym, ◌∙◌}
use Rattle.std.proofs.lemmas.Simd.{map-map}
use Rattle.model_text.specs.Walk.{groups}
use Rattle.ma_lines.specs.Sections.{Section}
use Rattle.cell_grid.specs.Space.{Space}
use Rattle.model_walk.specs.Placed.{Placed, plain_group, placed_of}
use Rattle.model_walk.specs.declared.placed.PlacedGroup.{PlacedGroup}
use Rattle.model_read.specs.Spaces as spaces
use Rattle.model_read.proofs.phases.built.Goals as goal

-- the section and the space of a group
abbrev with_space : Placed → Section × Space
with_space p = (p.section, p.space)

pub returns-clause-groups : goal.returns-clause-groups
returns-clause-groups c =
    let placed = c.args.parts.groups.items in
    let gs = groups c.args.sections.now in
    c.in_ok-groups.ensures ∙ ap (λ (xs : List PlacedGroup). map spaces.placed_space xs) c.deref.ensures.value
    ∙ sym (map-map with_space plain_group placed) ∙ ap (map with_space) c.requires.groups ∙ map-map with_space placed_of gs
