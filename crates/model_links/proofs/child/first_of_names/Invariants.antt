use Rattle.std.proofs.Common.{◌≡◌, map, take}
use Rattle.model_text.specs.Walk.{item_name}
use Rattle.model_walk.specs.Shown.{item_of}
use Rattle.model_links.specs.PortEnds.{first_items}
use Rattle.model_links.proofs.child.first_of_names.Given as goal

abbrev pub invariant-loop-item : goal.invariant-loop-item
invariant-loop-item l = record {
  names : l.names ≡ map item_name (map item_of l.found.items);
  first : map item_of l.found.items ≡ first_items (map item_of (take l.item-index l.items));
}
