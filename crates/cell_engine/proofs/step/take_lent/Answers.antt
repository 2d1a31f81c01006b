use Rattle.cell_engine.proofs.Takes.{ports_only}
use Rattle.cell_engine.proofs.step.take_lent.Goals as goal

pub returns-clause-cell : goal.returns-clause-cell
returns-clause-cell c = λ gs given.
    ports_only c.args.i c.args.kind c.args.at gs c.args.table.now c.take.new.table (c.in-Ok.ensures.cell gs given)
