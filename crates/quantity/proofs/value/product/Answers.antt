use Rattle.std.proofs.Common.{rules}
use Rattle.quantity.proofs.value.product.Goals as goal

pub returns-in-Some : goal.returns-in-Some
returns-in-Some c = search rules
