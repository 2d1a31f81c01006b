use Rattle.std.proofs.Common.{◌≡◌, take}
use Rattle.cell_engine.proofs.make.copies.Given as goal

abbrev pub invariant-loop-rule : goal.invariant-loop-rule
invariant-loop-rule l = l.made.items ≡ take l.rule-index l.rules
