use Rattle.std.proofs.Common.{refl, []}
use Rattle.model_leaves.proofs.Shown.{grown-on, grown-as, seats-of-group}
use Rattle.model_leaves.proofs.growing.Growing.group.Goals as goal

pub returns-clause-ok : goal.returns-clause-ok
returns-clause-ok c =
    grown-as c.args.self.now c.cells.new.self _ _ (seats-of-group c.args.group.now c.args.self.now.groups c.in_ok-part.part c.in_ok-part.part _ refl c.in_ok-part.ensures)
    (grown-on c.args.self.now c.part.new.self c.cells.new.self [] _ c.in_ok-part-2.ensures.grows (c.in_ok-cells.ensures.ok _ c.in_ok-part-2.ensures.part))
