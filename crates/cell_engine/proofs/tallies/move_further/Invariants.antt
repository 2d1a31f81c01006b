use Rattle.std.proofs.Common.{set}
use Rattle.cell_engine.specs.Step.{near}
use Rattle.cell_engine.specs.Tallied.{outs_of, AreMidway}
use Rattle.cell_engine.proofs.tallies.move_further.Given as goal

abbrev pub invariant-loop-difference : goal.invariant-loop-difference
invariant-loop-difference l = AreMidway (near l.plan) (set (outs_of l.table) l.i l.before) (outs_of l.table) l.difference-index l.tallies
