use Rattle.sparse_cycle.proofs.Fitted.{emission-fits, move-fits}
use Rattle.sparse_cycle.proofs.laws.leaves_keep_fitting.Goals as goal

pub returns-clause-emission : goal.returns-clause-emission
returns-clause-emission c = emission-fits c.cells_keep_their_numbers.ensures

pub returns-clause-moves : goal.returns-clause-moves
returns-clause-moves c = move-fits c.cells_keep_their_numbers.ensures
