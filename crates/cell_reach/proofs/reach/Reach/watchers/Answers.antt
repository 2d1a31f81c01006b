use Rattle.cell_reach.proofs.Fixed.{found_watchers, found_inside, found_few}
use Rattle.cell_reach.proofs.reach.Reach.watchers.Goals as goal

pub returns-clause-members : goal.returns-clause-members
returns-clause-members c =
    rw (← c.self.view_is) (found_watchers c.self.inside.ahead c.self.inside.back c.args.cell c.collect.new.into.items c.self.invariant.0 c.self.invariant.1 c.collect.ensures.cells (rw c.self.view_is c.requires.here))

pub returns-clause-inside : goal.returns-clause-inside
returns-clause-inside c =
    rw (← c.self.view_is) (found_inside c.self.inside.ahead c.self.inside.back c.args.cell c.collect.new.into.items c.self.invariant.0 c.self.invariant.1 c.collect.ensures.cells (rw c.self.view_is c.requires.here))

pub returns-clause-few : goal.returns-clause-few
returns-clause-few c =
    rw (← c.self.view_is) (found_few c.self.inside.ahead c.self.inside.back c.args.cell c.collect.new.into.items c.self.invariant.0 c.self.invariant.1 c.collect.ensures.cells)
