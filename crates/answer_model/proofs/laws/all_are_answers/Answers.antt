use Rattle.answer_model.proofs.AnswerLaws.{all_are_answers}
use Rattle.answer_model.proofs.laws.all_are_answers.Goals as goal

pub returns : goal.returns
returns c = all_are_answers
