use Rattle.model_text.proofs.GroupSound.{groups_are_sound}
use Rattle.model_text.proofs.accepted.accepted_groups_are_sound.Goals as goal

pub returns : goal.returns
returns c = groups_are_sound
