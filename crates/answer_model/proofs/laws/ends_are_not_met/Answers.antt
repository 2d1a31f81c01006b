use Rattle.answer_model.proofs.NoEnds.{ends_not_so}
use Rattle.answer_model.proofs.laws.ends_are_not_met.Goals as goal

pub returns : goal.returns
returns c = ends_not_so
