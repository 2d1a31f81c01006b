use Rattle.std.proofs.Common.{◌≡◌, map, take}
use Rattle.quantity.specs.Bytes.{all_there}
use Rattle.quantity.specs.Literals.{value_in}
use Rattle.cell_grid.specs.Reading.{words_left}
use Rattle.cell_grid.proofs.Gathered.{behind}
use Rattle.cell_grid.proofs.files.lay_words.Given as goal

abbrev pub invariant-loop-cell : goal.invariant-loop-cell
invariant-loop-cell l =
    all_there (map value_in (words_left l.fn.words.line.now l.fn.words.behind.now)) ≡ behind (take l.cell-index l.cells) (all_there (map value_in (words_left l.left.line.now l.left.behind.now)))
