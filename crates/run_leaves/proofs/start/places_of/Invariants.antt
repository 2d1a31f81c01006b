use Rattle.std.proofs.Common.{◌≡◌, length}
use Rattle.run_leaves.specs.Placed.{StandThere}
use Rattle.run_leaves.proofs.start.places_of.Given as goal

abbrev pub invariant-loop-leaf : goal.invariant-loop-leaf
invariant-loop-leaf l = (length l.seats ≡ l.leaf) × StandThere l.model l.seats
