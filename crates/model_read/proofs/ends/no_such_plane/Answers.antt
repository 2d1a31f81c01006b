use Rattle.std.proofs.Common.{refl}
use Rattle.model_read.proofs.ends.no_such_plane.Goals as goal

pub returns : goal.returns
returns c = refl
