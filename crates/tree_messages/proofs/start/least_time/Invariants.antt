use Rattle.std.proofs.Common.{◌≡◌, drop}
use Rattle.quantity.specs.Times.{earlier}
use Rattle.tree_messages.specs.Starting.{least_among}
use Rattle.tree_messages.proofs.start.least_time.Given as goal

abbrev pub invariant-loop-time : goal.invariant-loop-time
invariant-loop-time l = earlier l.least (least_among (drop l.time-index l.times)) ≡ least_among l.times
