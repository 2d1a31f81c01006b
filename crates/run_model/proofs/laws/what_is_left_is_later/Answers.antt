use Rattle.run_model.proofs.Ends.{done-leaves-later}
use Rattle.run_model.proofs.laws.what_is_left_is_later.Goals as goal

pub returns : goal.returns
returns c = done-leaves-later
