use Rattle.std.proofs.Common.{}
use Rattle.cell_reach.proofs.Differences.{equally_far}
use Rattle.cell_grid.proofs.Watching.{has-watchers}
use Rattle.cell_reach.proofs.laws.neighbourhoods.Goals as goal

pub returns-clause-inside : goal.returns-clause-inside
returns-clause-inside c = equally_far

pub returns-clause-watchers : goal.returns-clause-watchers
returns-clause-watchers c = λ n cell x. has-watchers n.space n.offsets cell x
