use Rattle.std.proofs.Common.{length}
use Rattle.rule_phrases.proofs.term.Lacks.+of_all.Given as goal

abbrev pub decreases-of_all : goal.decreases-of_all
decreases-of_all l = length l.terms.now
