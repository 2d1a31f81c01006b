use Rattle.std.proofs.Common.{◌≡◌, ◌≤◌, length}
use Rattle.std.specs.Prelude.{slice_set}
use Rattle.delay_lines.specs.Lists.{list_of}
use Rattle.cell_table.proofs.save.clear.Given as goal

abbrev pub invariant-loop-delays : goal.invariant-loop-delays
invariant-loop-delays l = record {
  others : l.delays.lists ≡ slice_set l.initial.delays.lists l.port (list_of l.delays l.port);
  spare : l.initial.delays.spare ≤ l.delays.spare;
}

abbrev pub decreases-loop-delays : goal.decreases-loop-delays
decreases-loop-delays l = length (list_of l.delays l.port)
