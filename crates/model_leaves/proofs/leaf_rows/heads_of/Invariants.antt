use Rattle.std.proofs.Common.{◌≡◌, ◌≤◌, length, map, take}
use Rattle.std.specs.Vec.{vec_capacity}
use Rattle.model_leaves.specs.Rows.{head_of}
use Rattle.model_leaves.proofs.leaf_rows.heads_of.Given as goal

abbrev pub invariant-loop-row : goal.invariant-loop-row
invariant-loop-row l = record {
  made : l.heads.items ≡ map head_of (take l.row-index l.rows);
  room : length l.rows ≤ vec_capacity l.heads;
}
