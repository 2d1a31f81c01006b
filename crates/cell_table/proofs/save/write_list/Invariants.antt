use Rattle.std.proofs.Common.{◌≡◌, ◌+◌, ◌≤◌, take}
use Rattle.std.specs.Prelude.{slice_set}
use Rattle.cell_table.proofs.save.write_list.Given as goal

abbrev pub invariant-loop-pair : goal.invariant-loop-pair
invariant-loop-pair l = record {
  lists : l.delays.lists ≡ slice_set l.fn.delays.lists l.port (take l.pair-index l.pairs);
  spare : l.fn.delays.spare ≤ l.delays.spare + l.pair-index;
}
