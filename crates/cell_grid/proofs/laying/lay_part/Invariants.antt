use Rattle.cell_grid.specs.Laying.{Lays}
use Rattle.cell_grid.proofs.Laid.{before}
use Rattle.cell_grid.proofs.laying.lay_part.Given as goal

abbrev pub invariant-loop-k : goal.invariant-loop-k
invariant-loop-k l = Lays (before l.part l.low l.k) l.number l.grid l.fn.into l.into
