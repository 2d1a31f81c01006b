use Rattle.cell_table.proofs.Kept.{is_table_seen}
use Rattle.cell_table.proofs.table.CellTable.width.Goals as goal

pub returns-clause-table : goal.returns-clause-table
returns-clause-table c = is_table_seen c.self.inside c.args.self.now c.self.view_is c.self.invariant
