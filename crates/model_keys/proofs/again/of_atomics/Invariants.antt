use Rattle.std.proofs.Common.{drop, map}
use Rattle.std.specs.List.{filter, flat_map}
use Rattle.model_text.specs.Keys.{of_atomic}
use Rattle.model_text.specs.Walk.{is_atomic}
use Rattle.model_walk.specs.Shown.{item_of}
use Rattle.model_keys.proofs.Parts.{Left}
use Rattle.model_keys.proofs.again.of_atomics.Given as goal

abbrev pub invariant-loop-item : goal.invariant-loop-item
invariant-loop-item l =
    Left l.first (flat_map (of_atomic l.sections) (filter is_atomic (map item_of (drop l.item-index l.items)))) (flat_map (of_atomic l.sections) (filter is_atomic (map item_of l.items)))
