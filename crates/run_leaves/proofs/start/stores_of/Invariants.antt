use Rattle.std.proofs.Common.{◌≡◌, length}
use Rattle.run_leaves.specs.Placed.{StoreGroups}
use Rattle.run_leaves.proofs.start.stores_of.Given as goal

abbrev pub invariant-loop-group : goal.invariant-loop-group
invariant-loop-group l = (length l.stores.items ≡ l.group-index) × StoreGroups l.model l.stores.items
