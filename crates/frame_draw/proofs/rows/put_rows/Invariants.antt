use Rattle.std.proofs.Common.{◌≡◌, ◌++◌, length, take}
use Rattle.frame_draw.specs.Knowing.{AreKnown}
use Rattle.frame_draw.specs.Pictures.{rows_text}
use Rattle.frame_draw.proofs.rows.put_rows.Given as goal

abbrev pub invariant-loop-row : goal.invariant-loop-row
invariant-loop-row l = record {
  known : AreKnown l.plane.decimals l.plane.width l.texts;
  appended : l.into.items ≡ l.fn.into.items ++ rows_text l.plane l.values l.row;
  kept : take (length l.fn.into.items) l.into.items ≡ l.fn.into.items;
}
