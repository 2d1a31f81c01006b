use Rattle.std.proofs.Common.{◌≡◌, ◌+◌, ◌≤◌, length, map, take}
use Rattle.std.specs.List.{sum_by}
use Rattle.cell_table.specs.declared.state.PortState.{PortState}
use Rattle.cell_table.specs.Saved.{pair_number}
use Rattle.cell_table.specs.Table.{with_piece}
use Rattle.cell_table.proofs.save.write_lists.Given as goal

abbrev pub invariant-loop-p : goal.invariant-loop-p
invariant-loop-p l = record {
  lists : l.delays.lists ≡ with_piece l.first (map (λ (q : PortState). q.pairs.items) (take l.p l.ports)) l.fn.delays.lists;
  count : length l.delays.lists ≡ length l.fn.delays.lists;
  spare : l.fn.delays.spare ≤ l.delays.spare + sum_by pair_number (take l.p l.ports);
}
