use Rattle.std.proofs.Common.{take}
use Rattle.cell_engine.proofs.Made.{NeedsAtMost}
use Rattle.cell_engine.proofs.make.deepest.Given as goal

abbrev pub invariant-loop-rule : goal.invariant-loop-rule
invariant-loop-rule l = NeedsAtMost l.most (take l.rule-index l.rules)
