use Rattle.std.proofs.Common.{◌≡◌, map, take}
use Rattle.model_rules.specs.Parts.{given}
use Rattle.model_rules.proofs.copied.copied_gives.Given as goal

abbrev pub invariant-loop-give : goal.invariant-loop-give
invariant-loop-give l = map given l.made.items ≡ map given (take l.give-index l.gives)
