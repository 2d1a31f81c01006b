use Rattle.std.proofs.Common.{◌≡◌, codes, map, take}
use Rattle.std.specs.List.{flat_map}
use Rattle.model_walk.specs.Shown.{item_of, items_at}
use Rattle.model_walk.proofs.entries.children.Given as goal

abbrev pub invariant-loop-entry : goal.invariant-loop-entry
invariant-loop-entry l = map item_of l.found.items ≡ flat_map (items_at (codes "components")) (take l.entry-index l.entry-items)
