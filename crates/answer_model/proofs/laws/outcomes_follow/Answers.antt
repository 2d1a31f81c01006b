use Rattle.answer_model.proofs.Outcomes.{outcome_laws}
use Rattle.answer_model.proofs.laws.outcomes_follow.Goals as goal

pub returns : goal.returns
returns c = outcome_laws
