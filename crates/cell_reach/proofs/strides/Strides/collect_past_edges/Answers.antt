use Rattle.cell_reach.proofs.Fixed.{collected_neighbours}
use Rattle.cell_reach.proofs.strides.Strides.collect_past_edges.Goals as goal

pub returns-clause-cells : goal.returns-clause-cells
returns-clause-cells c =
    collected_neighbours c.self.inside.grid c.args.cell c.position.result c.self.inside.steps.items c.deref.result.now c.args.self.now c.position.ensures.value c.deref.ensures.value c.self.view_is
    c.collect_at.new.into.items c.collect_at.ensures.cells
