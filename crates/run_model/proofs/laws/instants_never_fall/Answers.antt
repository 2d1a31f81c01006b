use Rattle.run_model.proofs.Ends.{instants-of-runs}
use Rattle.run_model.proofs.laws.instants_never_fall.Goals as goal

pub returns : goal.returns
returns c = instants-of-runs
