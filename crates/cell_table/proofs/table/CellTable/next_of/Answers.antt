use Rattle.std.proofs.Common.{◌∙◌, sym}
use Rattle.cell_table.proofs.Alone.{next_alone}
use Rattle.cell_table.proofs.table.CellTable.next_of.Goals as goal

pub returns-then-width-eq1 : goal.returns-then-width-eq1
returns-then-width-eq1 c =
    c.next.ensures ∙ next_alone c.args.i c.args.self.now c.width-width.ensures.table c.requires.cell (sym c.width-width.ensures.value ∙ c.if-width-eq1.true)
