use Rattle.answer_model.proofs.NamedCells.{groups_are_named}
use Rattle.answer_model.proofs.drawn.accepted_names_show_cells.Goals as goal

pub returns : goal.returns
returns c = groups_are_named c.accepted_models_are_sound.ensures
