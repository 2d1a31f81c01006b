use Rattle.std.proofs.Common.{◌≡◌, ◌≤◌, drop, length}
use Rattle.std.specs.List.{All}
use Rattle.model_leaves.specs.declared.table.Row.{Row}
use Rattle.model_leaves.specs.Rows.{span_of}
use Rattle.model_leaves.proofs.leaf_rows.shared_at_end.Given as goal

abbrev pub invariant-ends : goal.invariant-ends
invariant-ends l = record {
  within : l.first ≤ length l.rows;
  same : All (λ (row : Row). span_of row ≡ l.rest) (drop l.first l.rows);
}

abbrev pub decreases-ends : goal.decreases-ends
decreases-ends l = l.first
