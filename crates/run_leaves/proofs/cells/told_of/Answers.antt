use Rattle.std.proofs.Common.{refl}
use Rattle.run_leaves.proofs.cells.told_of.Goals as goal

pub returns-clause-next : goal.returns-clause-next
returns-clause-next c = refl
