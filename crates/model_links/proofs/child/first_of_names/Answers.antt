use Rattle.std.proofs.Common.{◌∙◌, List, [], map, ap}
use Rattle.std.proofs.lemmas.List.{map-append, take_all}
use Rattle.model_walk.specs.declared.item.Item.{Item}
use Rattle.model_walk.specs.Shown.{item_of}
use Rattle.model_links.specs.PortEnds.{with_item, first_items}
use Rattle.model_links.proofs.Lists.{grown}
use Rattle.model_links.proofs.child.first_of_names.Goals as goal

pub loop-item-preserved : goal.loop-item-preserved
loop-item-preserved c = record {
  names = c.in_ok-add_item.ensures.names;
  first = grown with_item (map item_of) (map-append item_of) c.args.items.now c.loop-item.item-index _ c.loop-item-test.true
      [] (map item_of c.loop-item.found.items) (map item_of c.add_item.new.found.items) c.in_ok-add_item.ensures.added c.loop-item.invariant.first;
}

pub returns : goal.returns
returns c = c.loop-item.invariant.first ∙ ap (λ (is : List Item). first_items (map item_of is)) (take_all c.loop-item.item-index c.args.items.now c.loop-item-test.false)
