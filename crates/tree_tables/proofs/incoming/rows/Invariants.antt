use Rattle.std.proofs.Common.{◌≡◌, map, take}
use Rattle.port_net.specs.Outside.{is_end_at}
use Rattle.tree_tables.specs.Stations.{row_of}
use Rattle.tree_tables.specs.Incoming.{rows_to}
use Rattle.tree_tables.proofs.incoming.rows.Given as goal

abbrev pub invariant-loop-port : goal.invariant-loop-port
invariant-loop-port l =
    map row_of l.all.items ≡ rows_to l.begins l.arrivals (is_end_at l.at) (take l.port-index l.ports)
