use Rattle.run_model.proofs.FittingCells.{cell_emitted-has, cell_moved-has}
use Rattle.run_model.proofs.laws.cells_keep_their_numbers.Goals as goal

pub returns : goal.returns
returns c = record { emission = cell_emitted-has; move = cell_moved-has }
