use Rattle.std.proofs.Common.{map, ap, ◌∙◌, sym}
use Rattle.model_walk.specs.Placed.{plain_group}
use Rattle.model_walk.specs.Sets.{sets_shown}
use Rattle.model_build.proofs.cells.next_group.Goals as goal

pub returns : goal.returns
returns c =
    record {
      placed = plain_group c.in-Some-next.placed;
      sets = sets_shown c.in-Some.rules;
      list = c.next_links-links.result.items;
      groups = ap (map plain_group) (sym c.next_links-links.ensures.groups ∙ c.in-Some-next.ensures.cases.0);
      rules = ap (map sets_shown) (sym c.next_links-links.ensures.rules ∙ c.in-Some.ensures.cases.0);
      atomics = c.next_links-links.ensures.atomics;
      links = c.next_links-links.ensures.links;
      made = c.in_ok-group.ensures;
    }
