use Rattle.std.proofs.Common.{Ok}
use Rattle.rule_eval.specs.Evaluated.{only}
use Rattle.cell_engine.proofs.Takes.{in_order, ports_only}
use Rattle.cell_engine.proofs.step.take_value.Goals as goal

pub returns-clause-cell : goal.returns-clause-cell
returns-clause-cell c = λ gs given.
    ports_only c.args.i c.args.kind c.args.at gs c.args.table.now c.take_out.new.self
    (in_order (Unit {0}) (Unit {0}) (Ok tt) c.args.kind c.args.at c.args.i gs (only c.args.value).values c.args.table.now c.take_out.new.self c.width-width.ensures.table c.requires.cell given c.in-Ok.ensures.ok)
