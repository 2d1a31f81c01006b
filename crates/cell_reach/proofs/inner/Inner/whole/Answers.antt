use Rattle.std.proofs.Common.{arith}
use Rattle.cell_reach.proofs.inner.Inner.whole.Goals as goal

pub returns-clause-all : goal.returns-clause-all
returns-clause-all c = λ p inside. (
  c.below.ensures.all p.row (omega (arith, inside.0)),
  c.below-2.ensures.all p.column (omega (arith, inside.1)),
  c.below-3.ensures.all p.plane (omega (arith, inside.2)),
)
