use Rattle.cell_table.proofs.Kept.{is_table_seen, cells_seen}
use Rattle.cell_table.proofs.table.CellTable.cells.Goals as goal

pub returns-clause-table : goal.returns-clause-table
returns-clause-table c = is_table_seen c.self.inside c.args.self.now c.self.view_is c.self.invariant

pub returns-clause-value : goal.returns-clause-value
returns-clause-value c = cells_seen c.self.inside c.args.self.now c.self.view_is
