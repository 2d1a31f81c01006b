use Rattle.std.proofs.Common.{◌≡◌, ◌++◌, map, drop}
use Rattle.std.specs.List.{flat_map}
use Rattle.run_model.specs.Cycle.{at_port}
use Rattle.tree_tables.specs.Stations.{ref_of}
use Rattle.served_tree.specs.Rows.{values_at_ref}
use Rattle.tree_mail.specs.Notes.{notes_of, all_heard}
use Rattle.tree_mail.proofs.lists.read_row.Given as goal

abbrev pub invariant-loop-begin : goal.invariant-loop-begin
invariant-loop-begin l =
    l.into.items
    ++ at_port (l.port.0, flat_map (values_at_ref l.bag (all_heard (notes_of l.kept))) (map ref_of (drop l.begin-index l.row)))
    ≡ l.initial.into.items ++ at_port (l.port.0, flat_map (values_at_ref l.bag (all_heard (notes_of l.kept))) (map ref_of l.row))
