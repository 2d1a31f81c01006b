use Rattle.model_build.proofs.Boxes.{boxes_are_standing}
use Rattle.model_build.proofs.laws.boxes_are_standing.Goals as goal

pub returns : goal.returns
returns c = boxes_are_standing
