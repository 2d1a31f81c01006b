use Rattle.std.proofs.Common.{◌≡◌, map, drop, max}
use Rattle.rule_forms.specs.Depth.{deepest}
use Rattle.rule_forms.proofs.Deepest.{set_pair}
use Rattle.rule_forms.proofs.depth.deepest_of_sets.Given as goal

abbrev pub invariant-loop-set : goal.invariant-loop-set
invariant-loop-set l = max l.most (deepest (map set_pair (drop l.set-index l.sets))) ≡ deepest (map set_pair l.sets)
