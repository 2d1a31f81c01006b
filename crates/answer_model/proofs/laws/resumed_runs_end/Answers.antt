use Rattle.answer_model.proofs.SavedStates.{states_may_begin, resumed_runs_end}
use Rattle.answer_model.proofs.laws.resumed_runs_end.Goals as goal

pub returns : goal.returns
returns c = record { may_begin = states_may_begin; runs = resumed_runs_end }
