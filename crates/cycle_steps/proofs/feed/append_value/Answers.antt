use Rattle.std.proofs.Common.{refl}
use Rattle.cycle_steps.proofs.Growth.{grown-same}
use Rattle.cycle_steps.proofs.feed.append_value.Goals as goal

pub returns-in-Leaf-clause-out_grows : goal.returns-in-Leaf-clause-out_grows
returns-in-Leaf-clause-out_grows c = grown-same _ _ refl

pub returns-in-TopOut-clause-x_grows : goal.returns-in-TopOut-clause-x_grows
returns-in-TopOut-clause-x_grows c = grown-same _ _ refl
