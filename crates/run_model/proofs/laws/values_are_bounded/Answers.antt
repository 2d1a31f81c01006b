use Rattle.run_model.proofs.BoundedCycle.{start-bounded, runs-bounded}
use Rattle.run_model.proofs.laws.values_are_bounded.Goals as goal

pub returns-clause-start : goal.returns-clause-start
returns-clause-start c = start-bounded

pub returns-clause-runs : goal.returns-clause-runs
returns-clause-runs c = runs-bounded
