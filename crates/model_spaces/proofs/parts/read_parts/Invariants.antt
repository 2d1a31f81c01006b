use Rattle.std.proofs.Common.{◌≡◌, length, take}
use Rattle.std.specs.Prelude.{IfSome}
use Rattle.cell_grid.specs.Space.{cell_count}
use Rattle.model_spaces.specs.Right.{AreParts}
use Rattle.model_walk.proofs.Read.{entries_at}
use Rattle.model_spaces.proofs.parts.read_parts.Given as goal

abbrev pub invariant-loop-read : goal.invariant-loop-read
invariant-loop-read l = record {
  read : AreParts l.section (entries_at (take l.read-index l.read-items)) l.parts;
  fit : IfSome l.parts.rows.values (λ values. length values ≡ cell_count l.grid);
}
