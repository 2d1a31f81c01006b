use Rattle.std.proofs.Common.{◌≡◌, length}
use Rattle.std.specs.List.{fold}
use Rattle.std.specs.Option.{option_map}
use Rattle.cell_grid.specs.Initial.{with_cell}
use Rattle.cell_grid.proofs.FileLemmas.{cells_left}
use Rattle.cell_grid.proofs.files.lay_cells.Given as goal

abbrev pub invariant-loop-left : goal.invariant-loop-left
invariant-loop-left l =
    option_map (fold with_cell l.values) (cells_left l.grid l.left) ≡ option_map (fold with_cell l.fn.values) (cells_left l.grid l.fn.file)

abbrev pub decreases-loop-left : goal.decreases-loop-left
decreases-loop-left l = length l.left
