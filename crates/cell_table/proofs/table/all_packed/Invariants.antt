use Rattle.std.proofs.Common.{◌≡◌, take}
use Rattle.cell_table.proofs.table.all_packed.Given as goal

abbrev pub invariant-loop-value : goal.invariant-loop-value
invariant-loop-value l = l.packed.items ≡ take l.value-index l.values
