use Rattle.std.proofs.Common.{◌≡◌, map, take}
use Rattle.std.specs.List.{flat_map}
use Rattle.model_walk.specs.Shown.{item_of, items_at}
use Rattle.model_walk.proofs.Read.{entries_at}
use Rattle.model_walk.proofs.names.items.Given as goal

abbrev pub invariant-loop-read : goal.invariant-loop-read
invariant-loop-read l = map item_of l.found.items ≡ flat_map (items_at l.key) (entries_at (take l.read-index l.read-items))
