use Rattle.std.proofs.Common.{◌∙◌, sym}
use Rattle.run_model.specs.CellStep.{port_took}
use Rattle.cell_table.proofs.Alone.{taken_alone}
use Rattle.cell_table.proofs.Taking.{none_if_refused}
use Rattle.cell_table.proofs.table.CellTable.take.Goals as goal

pub returns-then-width-eq1-clause-ok : goal.returns-then-width-eq1-clause-ok
returns-then-width-eq1-clause-ok c =
    taken_alone c.args.i c.args.self.now c.width-width.ensures.table c.requires.cell (sym c.width-width.ensures.value ∙ c.if-width-eq1.true) c.take_given.result c.args.kind c.args.at c.args.given.now.values c.given_at.result c.take_given.new.self
    c.given_at.ensures c.take_given.ensures.ok

pub returns-then-width-eq1-clause-err : goal.returns-then-width-eq1-clause-err
returns-then-width-eq1-clause-err c =
    none_if_refused (port_took c.args.kind c.args.at) c.args.given.now.values c.args.i c.args.self.now c.take_given.result c.take_given.new.self c.take_given.ensures.err
