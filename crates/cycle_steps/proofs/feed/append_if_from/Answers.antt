use Rattle.std.proofs.Common.{refl}
use Rattle.cycle_steps.proofs.Growth.{grown-same}
use Rattle.cycle_steps.proofs.feed.append_if_from.Goals as goal

pub returns-clause-x_grows : goal.returns-clause-x_grows
returns-clause-x_grows c = grown-same _ _ refl

pub returns-clause-out_grows : goal.returns-clause-out_grows
returns-clause-out_grows c = grown-same _ _ refl
