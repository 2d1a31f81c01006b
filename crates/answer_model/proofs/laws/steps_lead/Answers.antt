use Rattle.answer_model.proofs.Endings.{steps_lead}
use Rattle.answer_model.proofs.laws.steps_lead.Goals as goal

pub returns : goal.returns
returns c = steps_lead
