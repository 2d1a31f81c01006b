use Rattle.answer_model.proofs.DrawnRuns.{drawn_agrees}
use Rattle.answer_model.proofs.laws.drawn_agrees.Goals as goal

pub returns : goal.returns
returns c = drawn_agrees
