use Rattle.run_model.proofs.FittingCycle.{start-fits, one-cycle-fits, runs-fit}
use Rattle.run_model.proofs.laws.records_name_what_there_is.Goals as goal

pub returns-clause-start : goal.returns-clause-start
returns-clause-start c = start-fits

pub returns-clause-cycles : goal.returns-clause-cycles
returns-clause-cycles c = one-cycle-fits

pub returns-clause-runs : goal.returns-clause-runs
returns-clause-runs c = runs-fit
