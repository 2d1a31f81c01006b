use Rattle.std.proofs.Common.{refl}
use Rattle.model_leaves.proofs.growing.next.Goals as goal

pub returns : goal.returns
returns c = refl
