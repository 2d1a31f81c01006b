use Rattle.std.proofs.Common.{◌≡◌, map, drop, max}
use Rattle.rule_forms.specs.Depth.{deepest}
use Rattle.rule_forms.proofs.Deepest.{give_pair}
use Rattle.rule_forms.proofs.depth.deepest_of_gives.Given as goal

abbrev pub invariant-loop-give : goal.invariant-loop-give
invariant-loop-give l = max l.most (deepest (map give_pair (drop l.give-index l.gives))) ≡ deepest (map give_pair l.gives)
