use Rattle.std.proofs.Common.{vec_len}
use Rattle.rule_tree.specs.Phrases.{Phrase}
use Rattle.rule_tree.specs.Scope.{Names}
use Rattle.rule_phrases.specs.Terms.{StandsForPhrase}
use Rattle.rule_phrases.specs.Between.{with_signs}
use Rattle.rule_phrases.proofs.Prefixes.{StandsBehind}
use Rattle.rule_phrases.proofs.between.with_signs.Given as goal

abbrev pub invariant-loop-sign : goal.invariant-loop-sign
invariant-loop-sign l =
    (names : Names) (x : Phrase) → StandsForPhrase names l.fn.operand x → StandsBehind names l.term l.signs.items (with_signs l.fn.signs.items x)

abbrev pub decreases-loop-sign : goal.decreases-loop-sign
decreases-loop-sign l = vec_len l.signs
