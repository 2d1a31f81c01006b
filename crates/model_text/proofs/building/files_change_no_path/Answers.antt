use Rattle.model_text.proofs.Bare.{paths_stay}
use Rattle.model_text.proofs.building.files_change_no_path.Goals as goal

pub returns : goal.returns
returns c = paths_stay
