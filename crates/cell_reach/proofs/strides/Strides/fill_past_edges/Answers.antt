use Rattle.cell_reach.proofs.Fixed.{filled_neighbours}
use Rattle.cell_reach.proofs.strides.Strides.fill_past_edges.Goals as goal

pub returns : goal.returns
returns c =
    filled_neighbours c.self.inside.grid c.args.cell c.position.result c.self.inside.steps.items c.deref.result.now c.args.self.now c.position.ensures.value c.deref.ensures.value c.self.view_is
    c.fill_at.new.into c.fill_at.ensures
