use Rattle.std.proofs.Common.{◌≡◌, take}
use Rattle.model_rules.proofs.names.are_same_offsets.Given as goal

abbrev pub invariant-loop-i : goal.invariant-loop-i
invariant-loop-i l = take l.i l.offsets ≡ take l.i l.others
