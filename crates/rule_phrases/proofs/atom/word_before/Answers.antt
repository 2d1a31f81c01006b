use Rattle.std.proofs.Common.{◌∷◌, refl}
use Rattle.std.specs.Option.{option_map}
use Rattle.rule_words.specs.Descent.{port_value_before}
use Rattle.rule_words.specs.Reading.{word_phrase}
use Rattle.rule_words.specs.Tokens.{word}
use Rattle.rule_words.specs.Shown.{tokens_of}
use Rattle.rule_phrases.proofs.Fronts.{front_first, front_second, term_at, no_term_at}
use Rattle.rule_phrases.proofs.atom.word_before.Goals as goal

pub returns-in-Some-clause-atom : goal.returns-in-Some-clause-atom
returns-in-Some-clause-atom c =
    let w = c.args.word.now in
    let ts = tokens_of c.args.rest.now in
    λ names. front_first names (option_map (λ x. (x, ts)) (word_phrase w)) (port_value_before (word w ∷ ts)) (record { term = c.in-Some.term; rest = c.args.rest })
    (term_at names ts (word_phrase w) (record { term = c.in-Some.term; rest = c.args.rest }) (c.in-Some.ensures names) refl)

pub returns-clause-atom : goal.returns-clause-atom
returns-clause-atom c =
    let w = c.args.word.now in
    let ts = tokens_of c.args.rest.now in
    λ names. front_second names (option_map (λ x. (x, ts)) (word_phrase w)) (port_value_before (word w ∷ ts)) c.port_value_before.result
    (no_term_at names ts (word_phrase w) (c.in_default.ensures names)) (c.port_value_before.ensures.atom names)
