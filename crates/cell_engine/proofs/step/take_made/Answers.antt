use Rattle.run_model.specs.CellStep.{took}
use Rattle.cell_table.specs.Table.{changed_ports, with_variables}
use Rattle.cell_engine.proofs.Takes.{two_changes, only_variables, shape_variables}
use Rattle.cell_engine.proofs.step.take_made.Goals as goal

pub returns-clause-cell : goal.returns-clause-cell
returns-clause-cell c = λ gs given.
    two_changes c.args.i (changed_ports (took c.args.kind c.args.at gs)) (with_variables c.args.variables.now) c.args.table.now c.take.new.table c.set_variables.new.self
    (c.in-Ok.ensures.cell gs given) c.set_variables.ensures

pub returns-clause-only : goal.returns-clause-only
returns-clause-only c =
    only_variables c.args.i c.args.variables.now c.args.table.now c.take.new.table c.set_variables.new.self c.requires.cell c.take.ensures.only c.take.ensures.shape c.set_variables.ensures

pub returns-clause-shape : goal.returns-clause-shape
returns-clause-shape c =
    shape_variables c.args.i c.args.variables.now c.args.table.now c.take.new.table c.set_variables.new.self c.take.ensures.shape c.set_variables.ensures
