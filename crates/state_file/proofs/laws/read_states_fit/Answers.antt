use Rattle.state_file.proofs.Fitting.{read_states_fit}
use Rattle.state_file.proofs.laws.read_states_fit.Goals as goal

pub returns : goal.returns
returns c = read_states_fit
