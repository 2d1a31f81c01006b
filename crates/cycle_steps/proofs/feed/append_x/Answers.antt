use Rattle.cycle_steps.proofs.Growth.{grown-same, grown-by}
use Rattle.cycle_steps.proofs.feed.append_x.Goals as goal

pub returns-clause-grows : goal.returns-clause-grows
returns-clause-grows c = grown-by _ _ _ c.in-Ok.ensures.items

pub returns-in_default-clause-grows : goal.returns-in_default-clause-grows
returns-in_default-clause-grows c = grown-same _ _ c.in_default.ensures.items
