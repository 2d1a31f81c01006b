use Rattle.run_model.proofs.Joins.{cycles-join, resumes-again}
use Rattle.run_model.proofs.laws.cycles_join.Goals as goal

pub returns-clause-joined : goal.returns-clause-joined
returns-clause-joined c = cycles-join

pub returns-clause-again : goal.returns-clause-again
returns-clause-again c = resumes-again
