use Rattle.rule_phrases.proofs.Terms.{misses_both}
use Rattle.rule_phrases.proofs.term.Lacks.and.Goals as goal

pub returns : goal.returns
returns c = misses_both c.args.self c.args.other _ c.either.ensures c.either-2.ensures c.either-3.ensures
