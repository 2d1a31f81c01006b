use Rattle.std.proofs.Common.{◌≡◌, take}
use Rattle.std.specs.List.{sum_by}
use Rattle.cell_table.specs.Saved.{pair_number}
use Rattle.cell_table.proofs.save.number_of_pairs.Given as goal

abbrev pub invariant-loop-port : goal.invariant-loop-port
invariant-loop-port l = l.number ≡ sum_by pair_number (take l.port-index l.ports)
