use Rattle.answer_model.proofs.BoundedModels.{models_are_bounded}
use Rattle.answer_model.proofs.drawn.accepted_models_have_bounded_values.Goals as goal

pub returns : goal.returns
returns c = models_are_bounded c.the_grammar_is_found.ensures c.accepted_models_pass_each_phase.ensures c.accepted_models_are_sound.ensures
