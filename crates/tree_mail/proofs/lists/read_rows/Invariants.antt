use Rattle.std.proofs.Common.{◌≡◌, ◌++◌, map, drop}
use Rattle.std.specs.List.{flat_map, enumerate_from}
use Rattle.run_model.specs.Cycle.{at_port}
use Rattle.tree_tables.specs.Stations.{row_of}
use Rattle.served_tree.specs.Rows.{values_at_ref, read_rows}
use Rattle.tree_mail.specs.Notes.{notes_of, all_heard}
use Rattle.tree_mail.proofs.lists.read_rows.Given as goal

abbrev pub invariant-loop-i : goal.invariant-loop-i
invariant-loop-i l =
    l.values.items
    ++ flat_map at_port (enumerate_from l.i (map (flat_map (values_at_ref l.bag (all_heard (notes_of l.kept)))) (map row_of (drop l.i l.rows))))
    ≡ read_rows l.bag (all_heard (notes_of l.kept)) (map row_of l.rows)
