use Rattle.std.proofs.Common.{◌≡◌, ◌++◌, length, take}
use Rattle.frame_draw.specs.Knowing.{AreKnown}
use Rattle.frame_draw.specs.Pictures.{cells_text}
use Rattle.frame_draw.proofs.rows.put_cells.Given as goal

abbrev pub invariant-loop-column : goal.invariant-loop-column
invariant-loop-column l = record {
  known : AreKnown l.plane.decimals l.plane.width l.texts;
  appended : l.into.items ≡ l.fn.into.items ++ cells_text l.plane l.values l.row l.column;
  kept : take (length l.fn.into.items) l.into.items ≡ l.fn.into.items;
}
