use Rattle.std.proofs.Common.{◌∙◌, sym}
use Rattle.cell_table.proofs.Alone.{emitted_alone}
use Rattle.cell_table.proofs.table.CellTable.emit_into.Goals as goal

pub returns-then-width-eq1-clause-cell : goal.returns-then-width-eq1-clause-cell
returns-then-width-eq1-clause-cell c =
    emitted_alone c.args.i c.args.self.now c.width-width.ensures.table c.requires.cell (sym c.width-width.ensures.value ∙ c.if-width-eq1.true) c.args.t c.emit_port-only.new.self c.emit_port-only.ensures.port
