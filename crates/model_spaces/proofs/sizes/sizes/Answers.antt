use Rattle.std.proofs.Common.{lit≤}
use Rattle.model_spaces.proofs.Read.{number_below}
use Rattle.model_spaces.proofs.sizes.sizes.Goals as goal

pub number-requires : goal.number-requires
number-requires c = number_below 7 c.first.result (lit≤ tt) c.first.ensures.read

pub number-requires-in-None : goal.number-requires-in-None
number-requires-in-None c = number_below 7 c.first-in-None.result (lit≤ tt) c.first-in-None.ensures.read
