use Rattle.std.proofs.Common.{◌∙◌, sym, ap}
use Rattle.run_model.specs.CellStep.{port_took}
use Rattle.rule_tree.specs.Ports.{taken_at}
use Rattle.cell_table.specs.Table.{changed_cell, changed_port}
use Rattle.cell_table.proofs.Taking.{none_taken, took_only}
use Rattle.cell_table.proofs.table.CellTable.take_given.Goals as goal

pub returns-in-None-clause-ok : goal.returns-in-None-clause-ok
returns-in-None-clause-ok c =
    sym (ap (λ o. changed_cell c.args.i (changed_port c.args.p (taken_at (port_took c.args.kind c.args.at) o)) c.args.self.now) c.in-None.is
    ∙ none_taken (port_took c.args.kind c.args.at) c.args.i c.args.p c.args.self.now)

pub returns-in-Some-clause-only : goal.returns-in-Some-clause-only
returns-in-Some-clause-only c = (took_only c.args.kind c.args.at c.in-Some.value c.args.i c.args.p c.args.self.now c.take_port.new.self c.take_port.result c.requires.cell c.take_port.ensures.ok c.take_port.ensures.err).0

pub returns-in-Some-clause-shape : goal.returns-in-Some-clause-shape
returns-in-Some-clause-shape c = (took_only c.args.kind c.args.at c.in-Some.value c.args.i c.args.p c.args.self.now c.take_port.new.self c.take_port.result c.requires.cell c.take_port.ensures.ok c.take_port.ensures.err).1
