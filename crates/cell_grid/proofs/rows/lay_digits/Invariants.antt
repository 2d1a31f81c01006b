use Rattle.std.proofs.Common.{◌≡◌, map, take, drop}
use Rattle.quantity.specs.Bytes.{all_there}
use Rattle.cell_grid.specs.Initial.{digit_value}
use Rattle.cell_grid.proofs.Gathered.{behind}
use Rattle.cell_grid.proofs.rows.lay_digits.Given as goal

abbrev pub invariant-loop-place : goal.invariant-loop-place
invariant-loop-place l =
    all_there (map digit_value l.chars) ≡ behind (take l.place l.cells) (all_there (map digit_value (drop l.place l.chars)))
