use Rattle.std.proofs.Common.{None, Some}
use Rattle.std.specs.Option.{option_map}
use Rattle.rule_tree.specs.Phrases as P
use Rattle.rule_tree.specs.Phrases.{counts, looked_up}
use Rattle.rule_words.specs.Reading.{constants}
use Rattle.rule_phrases.proofs.Fronts.{term_first, term_second, count_at, no_count_at}
use Rattle.rule_phrases.proofs.atom.word_phrase.Goals as goal

pub returns-in-Some : goal.returns-in-Some
returns-in-Some c =
    let w = c.args.word.now in
    λ names. term_first names (looked_up constants w) (option_map P.counted (looked_up counts w)) c.in-Some.term (c.in-Some.ensures names)

pub returns-in_err-count : goal.returns-in_err-count
returns-in_err-count c =
    let w = c.args.word.now in
    λ names. rw c.from_residual.ensures
    (term_second names (looked_up constants w) (option_map P.counted (looked_up counts w)) None (c.in_default.ensures names) (no_count_at names w c.in_err-count.ensures))

pub returns : goal.returns
returns c =
    let w = c.args.word.now in
    λ names. term_second names (looked_up constants w) (option_map P.counted (looked_up counts w)) (Some c.counted.result) (c.in_default.ensures names)
    (count_at names w c.in_ok-count.count c.counted.result c.in_ok-count.ensures (c.counted.ensures names))
