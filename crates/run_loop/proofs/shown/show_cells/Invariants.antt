use Rattle.std.proofs.Common.{◌+◌, ◌≤◌}
use Rattle.run_loop.proofs.Emitted.{ArePreset}
use Rattle.run_loop.proofs.shown.show_cells.Given as goal

abbrev pub invariant-loop-cell : goal.invariant-loop-cell
invariant-loop-cell g l =
    record { shown : ArePreset (g.C.Cycles.standing l.run).state.leaf_states l.fn.drawn l.drawn l.cell; steps : l.steps ≤ l.fn.steps + l.cell }
