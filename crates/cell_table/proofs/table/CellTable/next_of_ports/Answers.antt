use Rattle.std.proofs.Common.{◌≡◌, ◌≤◌, ◌∙◌, length, arith}
use Rattle.quantity.specs.Times.{earlier}
use Rattle.run_model.specs.CellStep.{first_time}
use Rattle.cell_table.specs.Told.{no_cell, cell_at}
use Rattle.cell_table.specs.Table.{port_at}
use Rattle.cell_table.proofs.Emitting.{next_is}
use Rattle.cell_table.proofs.table.CellTable.next_of_ports.Goals as goal

pub returns : goal.returns
returns c =
    let t = c.args.self.now in
    let numbers = c.width-width.ensures.table.numbers c.args.i no_cell c.requires.cell in
    let few : length (cell_at t.cells c.args.i).ports ≤ 4 = omega (arith, numbers.0, c.width-width.ensures.table.width) in
    let all : c.earlier.result ≡ earlier (first_time (port_at t c.args.i 0).pairs) (earlier (first_time (port_at t c.args.i 1).pairs) (earlier (first_time (port_at t c.args.i 2).pairs) (first_time (port_at t c.args.i 3).pairs))) = cc in
    all ∙ next_is (cell_at t.cells c.args.i).ports few
