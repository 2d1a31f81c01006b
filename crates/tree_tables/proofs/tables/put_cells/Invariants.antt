use Rattle.std.proofs.Common.{◌≡◌, ◌+◌, map, take}
use Rattle.tree_tables.specs.Walk.{PutsBehind, cell_stations}
use Rattle.tree_tables.proofs.tables.put_cells.Given as goal

abbrev pub invariant-loop-i : goal.invariant-loop-i
invariant-loop-i l =
    record {
      cells : PutsBehind l.fn.table l.table
          (cell_stations l.links l.parent l.fn.table.leaves (map (λ v. v.items) (take l.i l.names)));
      leaves : l.table.leaves ≡ l.fn.table.leaves + l.i;
    }
