use Rattle.std.proofs.Common.{◌<◌, length, arith}
use Rattle.model_tree.proofs.CellNames.{one-cell}
use Rattle.model_tree.proofs.cell_ports.add_to_cell.Goals as goal

pub returns-in_ok-add_name : goal.returns-in_ok-add_name
returns-in_ok-add_name c =
    let within : c.args.cell < length c.args.all.now = omega (arith, c.if-at-all.true) in
    one-cell (λ v. v.items) c.args.all.now c.args.cell c.index-all-at.result c.add_name.new.names c.args.port.now within c.in_ok-add_name.ensures
