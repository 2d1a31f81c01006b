use Rattle.std.proofs.Common.{◌≡◌, ◌++◌, length, map, take}
use Rattle.std.specs.List.{range_with_len}
use Rattle.source_text.specs.Lines.{file}
use Rattle.model_text.specs.LifeModel.{made_row}
use Rattle.model_text.proofs.life_rows.put_rows.Given as goal

abbrev pub invariant-loop-row : goal.invariant-loop-row
invariant-loop-row l = record {
  appended : l.into.items ≡ l.fn.into.items ++ file (map (made_row l.n) (range_with_len 0 l.row));
  kept : take (length l.fn.into.items) l.into.items ≡ l.fn.into.items;
}
