use Rattle.std.proofs.Common.{take}
use Rattle.std.specs.List.{All}
use Rattle.cell_engine.proofs.Made.{NeedsAtMost}
use Rattle.cell_engine.proofs.make.deepest_of_sets.Given as goal

abbrev pub invariant-loop-rules : goal.invariant-loop-rules
invariant-loop-rules l = All (λ set. NeedsAtMost l.most set.items) (take l.rules-index l.sets)
