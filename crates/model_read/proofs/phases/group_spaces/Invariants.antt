use Rattle.std.proofs.Common.{◌≡◌, map, take}
use Rattle.model_read.specs.Spaces.{kept_space, placed_space}
use Rattle.model_read.proofs.phases.group_spaces.Given as goal

abbrev pub invariant-loop-group : goal.invariant-loop-group
invariant-loop-group l = map kept_space l.found.items ≡ map placed_space (take l.group-index l.groups)
