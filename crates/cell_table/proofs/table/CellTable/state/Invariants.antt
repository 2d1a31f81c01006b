use Rattle.std.proofs.Common.{◌≡◌, map}
use Rattle.std.specs.List.{range_with_len}
use Rattle.cell_table.specs.Saved.{port_of_saved}
use Rattle.cell_table.specs.Table.{port_at}
use Rattle.cell_table.proofs.table.CellTable.state.Given as goal

abbrev pub invariant-loop-p : goal.invariant-loop-p
invariant-loop-p l = map port_of_saved l.ports.items ≡ map (port_at l.self l.i) (range_with_len 0 l.p)
