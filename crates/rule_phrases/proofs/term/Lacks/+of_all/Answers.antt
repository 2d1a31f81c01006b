use Rattle.std.proofs.lemmas.List.{take_rest}
use Rattle.rule_phrases.proofs.Terms.{none_miss, all_miss}
use Rattle.rule_phrases.proofs.term.Lacks.+of_all.Goals as goal

pub returns-in-empty : goal.returns-in-empty
returns-in-empty t c = none_miss c.nothing.result c.args.terms.now c.in-empty.len_below c.nothing.ensures

pub returns-in-len1-up : goal.returns-in-len1-up
returns-in-len1-up t c =
    all_miss c.args.terms.now c.term-item.result c.of_all.result c.and.result c.in-len1-up.len_at_least c.term-item.is (rw (take_rest c.args.terms.now 1) at c.of_all.ensures) c.and.ensures
