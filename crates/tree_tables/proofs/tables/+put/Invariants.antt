use Rattle.std.proofs.Common.{◌≡◌, ◌+◌, ℕ, ℤ, List, take, length}
use Rattle.served_tree.specs.Processors.{Processor}
use Rattle.served_tree.specs.Places.{ContainsFrom}
use Rattle.tree_tables.specs.Children.{leaves_of, processors_of}
use Rattle.tree_tables.specs.Walk.{PutsBehind, all_stations, child_rows}
use Rattle.tree_tables.proofs.tables.+put.Given as goal

abbrev pub invariant-put_all-loop-child : goal.invariant-put_all-loop-child
invariant-put_all-loop-child l =
    record {
      takes : (settings : ℕ → List ℤ) (ps : List Processor)
          → ContainsFrom ps (length l.fn.table.entries.items)
          (processors_of l.children settings (length l.fn.table.entries.items) l.parent l.fn.table.leaves)
          → PutsBehind l.fn.table l.table
          (all_stations ps (take l.child-index l.children) settings (length l.fn.table.entries.items) l.parent l.fn.table.leaves (child_rows l.links));
      leaves : (settings : ℕ → List ℤ)
          → l.table.leaves ≡ l.fn.table.leaves + leaves_of (take l.child-index l.children) settings;
    }
