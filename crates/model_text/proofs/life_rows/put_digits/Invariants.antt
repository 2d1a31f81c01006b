use Rattle.std.proofs.Common.{◌≡◌, ◌++◌, length, map, take}
use Rattle.std.specs.List.{range_with_len}
use Rattle.model_text.specs.LifeModel.{made_digit}
use Rattle.model_text.proofs.life_rows.put_digits.Given as goal

abbrev pub invariant-loop-column : goal.invariant-loop-column
invariant-loop-column l = record {
  appended : l.into.items ≡ l.fn.into.items ++ map (made_digit l.row) (range_with_len 0 l.column);
  kept : take (length l.fn.into.items) l.into.items ≡ l.fn.into.items;
}
