use Rattle.std.proofs.Common.{◌≡◌, ◌++◌, drop}
use Rattle.std.specs.List.{flat_map, enumerate_from}
use Rattle.cell_table.specs.Told.{if_given, bag_of_given}
use Rattle.cell_table.proofs.emit.append_given.Given as goal

abbrev pub invariant-loop-port : goal.invariant-loop-port
invariant-loop-port l =
    (l.fn.into.items ++ bag_of_given l.given) ≡ (l.into.items ++ flat_map if_given (enumerate_from l.port (drop l.port l.given.values)))
