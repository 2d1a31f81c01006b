use Rattle.std.proofs.Common.{◌≡◌, map, take}
use Rattle.model_rules.specs.Parts.{set_to}
use Rattle.model_rules.proofs.copied.copied_changes.Given as goal

abbrev pub invariant-loop-set : goal.invariant-loop-set
invariant-loop-set l = map set_to l.made.items ≡ map set_to (take l.set-index l.sets)
