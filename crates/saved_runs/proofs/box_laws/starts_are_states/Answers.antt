use Rattle.saved_runs.proofs.AllClasses.{starts-are}
use Rattle.saved_runs.proofs.box_laws.starts_are_states.Goals as goal

pub returns : goal.returns
returns c = starts-are
