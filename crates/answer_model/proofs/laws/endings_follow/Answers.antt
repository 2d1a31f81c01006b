use Rattle.answer_model.proofs.Endings.{endings_follow}
use Rattle.answer_model.proofs.laws.endings_follow.Goals as goal

pub returns : goal.returns
returns c = endings_follow
