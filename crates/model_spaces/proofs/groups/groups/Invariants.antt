use Rattle.std.proofs.Common.{◌≡◌, take}
use Rattle.std.specs.List.{filter}
use Rattle.model_text.specs.Walk.{is_group}
use Rattle.model_walk.specs.Met.{sections_at}
use Rattle.model_spaces.proofs.groups.groups.Given as goal

abbrev pub invariant-loop-section : goal.invariant-loop-section
invariant-loop-section l = sections_at l.found.items ≡ filter is_group (sections_at (take l.section-index l.section-items))
