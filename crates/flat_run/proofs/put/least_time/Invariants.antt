use Rattle.std.proofs.Common.{◌≡◌, map, drop}
use Rattle.quantity.specs.Times.{earlier}
use Rattle.run_model.specs.CellStep.{next_of_ports}
use Rattle.cell_table.specs.Saved.{port_of_saved}
use Rattle.flat_run.proofs.put.least_time.Given as goal

abbrev pub invariant-loop-port : goal.invariant-loop-port
invariant-loop-port l =
    earlier l.next (next_of_ports (map port_of_saved (drop l.port-index l.ports))) ≡ next_of_ports (map port_of_saved l.ports)
