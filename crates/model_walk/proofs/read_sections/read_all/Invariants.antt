use Rattle.std.proofs.Common.{◌≡◌, take}
use Rattle.model_walk.proofs.read_sections.read_all.Given as goal

abbrev pub invariant-loop-at : goal.invariant-loop-at
invariant-loop-at l = l.all.items ≡ take l.at l.sections
