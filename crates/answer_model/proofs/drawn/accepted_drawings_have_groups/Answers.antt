use Rattle.answer_model.proofs.DrawnGroups.{drawings_have_groups}
use Rattle.answer_model.proofs.drawn.accepted_drawings_have_groups.Goals as goal

pub returns : goal.returns
returns c = drawings_have_groups c.accepted_models_pass_each_phase.ensures c.accepted_models_are_sound.ensures
