use Rattle.quantity.proofs.NothingElse.{nothing_else}
use Rattle.quantity.proofs.laws.nothing_else_is_read.Goals as goal

pub returns : goal.returns
returns c = nothing_else
