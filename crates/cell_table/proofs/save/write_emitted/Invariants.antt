use Rattle.std.proofs.Common.{◌≡◌, map, take}
use Rattle.cell_table.specs.declared.state.PortState.{PortState}
use Rattle.cell_table.specs.Table.{with_piece}
use Rattle.cell_table.proofs.save.write_emitted.Given as goal

abbrev pub invariant-loop-p : goal.invariant-loop-p
invariant-loop-p l = l.values ≡ with_piece l.first (map (λ (q : PortState). q.emitted) (take l.p l.ports)) l.fn.values
