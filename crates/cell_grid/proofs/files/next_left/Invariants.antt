use Rattle.std.proofs.Common.{◌≡◌, length}
use Rattle.cell_grid.specs.Reading.{words_left}
use Rattle.cell_grid.proofs.files.next_left.Given as goal

abbrev pub invariant-lines : goal.invariant-lines
invariant-lines l = words_left l.line l.behind ≡ words_left l.fn.words.line.now l.fn.words.behind.now

abbrev pub decreases-lines : goal.decreases-lines
decreases-lines l = length l.behind
