use Rattle.std.proofs.Common.{◌∙◌}
use Rattle.cell_reach.proofs.Fixed.{turned_neighbours}
use Rattle.cell_reach.proofs.reach.Reach.watchers_by_offset.Goals as goal

pub returns : goal.returns
returns c =
    c.fill.ensures ∙ turned_neighbours c.self.inside.ahead c.args.self.now c.self.inside.back c.args.cell c.self.invariant.0 c.self.invariant.1 c.self.view_is
