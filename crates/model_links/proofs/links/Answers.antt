use Rattle.std.proofs.Common.{map, List, sym, ap, ◌∙◌}
use Rattle.std.proofs.lemmas.Simd.{map-map}
use Rattle.std.specs.List.{filter}
use Rattle.ma_lines.specs.Sections.{Section}
use Rattle.model_text.specs.Walk.{is_group, groups}
use Rattle.model_text.specs.Spaces.{space_of}
use Rattle.model_walk.specs.Met.{sections_at}
use Rattle.model_walk.specs.Placed.{Placed, plain_group, placed_of}
use Rattle.model_links.proofs.links.Goals as goal

pub all_links-requires : goal.all_links-requires
all_links-requires c =
    let ss = c.args.sections.now in
    sym (map-map (λ (p : Placed). p.space) plain_group c.args.groups.now) ∙ ap (map (λ (p : Placed). p.space)) c.requires.groups ∙ map-map (λ (p : Placed). p.space) placed_of (groups ss)
    ∙ ap (λ (xs : List Section). map space_of (filter is_group xs)) (sym (ap sections_at c.deref.ensures.value ∙ c.requires.walk.sections))
