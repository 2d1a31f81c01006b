use Rattle.cell_grid.specs.Laying.{Lays}
use Rattle.cell_grid.proofs.Laid.{in_first}
use Rattle.cell_grid.proofs.laying.lay_zone.Given as goal

abbrev pub invariant-loop-corners : goal.invariant-loop-corners
invariant-loop-corners l = Lays (in_first l.ranges l.corners-index) l.number l.grid l.fn.into l.into
