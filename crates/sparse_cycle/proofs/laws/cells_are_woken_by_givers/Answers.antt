use Rattle.sparse_cycle.proofs.Waking.{givers-wake, reached-are-touched}
use Rattle.sparse_cycle.proofs.laws.cells_are_woken_by_givers.Goals as goal

pub returns-clause-woken : goal.returns-clause-woken
returns-clause-woken c = givers-wake

pub returns-clause-touched : goal.returns-clause-touched
returns-clause-touched c = reached-are-touched
