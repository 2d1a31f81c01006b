use Rattle.cell_engine.proofs.Takes.{in_order}
use Rattle.cell_engine.proofs.step.take.Goals as goal

pub returns-clause-cell : goal.returns-clause-cell
returns-clause-cell c = λ gs given.
    in_order _ _ c.take.result c.args.kind c.args.at c.args.i gs c.args.given.now.values c.args.table.now c.take.new.self c.width-width.ensures.table c.requires.cell given c.take.ensures.ok
