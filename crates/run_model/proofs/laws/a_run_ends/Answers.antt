use Rattle.run_model.proofs.Ends.{runs-end, run-is-a-run}
use Rattle.run_model.proofs.laws.a_run_ends.Goals as goal

pub returns-clause-from_a_state : goal.returns-clause-from_a_state
returns-clause-from_a_state c = runs-end

pub returns-clause-whole : goal.returns-clause-whole
returns-clause-whole c = run-is-a-run
