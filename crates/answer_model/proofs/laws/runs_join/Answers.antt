use Rattle.answer_model.proofs.Resumes.{cycles_join, runs_join}
use Rattle.answer_model.proofs.laws.runs_join.Goals as goal

pub returns-clause-cycles : goal.returns-clause-cycles
returns-clause-cycles c = cycles_join

pub returns-clause-files : goal.returns-clause-files
returns-clause-files c = runs_join
