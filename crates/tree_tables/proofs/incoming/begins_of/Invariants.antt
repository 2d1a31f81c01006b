use Rattle.std.proofs.Common.{◌≡◌, take}
use Rattle.tree_tables.specs.Stations.{row_of}
use Rattle.tree_tables.specs.Incoming.{begins_at}
use Rattle.tree_tables.proofs.incoming.begins_of.Given as goal

abbrev pub invariant-loop-link : goal.invariant-loop-link
invariant-loop-link l = row_of l.row ≡ begins_at l.begins (take l.link-index l.links)
