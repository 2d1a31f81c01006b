use Rattle.answer_model.proofs.NamedLeaves.{models_are_named}
use Rattle.answer_model.proofs.drawn.accepted_names_are_names.Goals as goal

pub returns : goal.returns
returns c = models_are_named c.accepted_models_pass_each_phase.ensures c.accepted_models_have_bounded_values.ensures
