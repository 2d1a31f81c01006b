use Rattle.std.proofs.Common.{◌≡◌, refl, rules, ◌∷◌}
use Rattle.std.specs.Prelude.{codes}
use Rattle.rule_words.specs.Descent.{port_value_before}
use Rattle.rule_tree.specs.Phrases as P
use Rattle.rule_words.specs.Tokens.{word}
use Rattle.rule_words.specs.Shown.{tokens_of}
use Rattle.rule_phrases.proofs.Fronts.{front_is, port_value_is}
use Rattle.rule_phrases.proofs.atom.port_value_before.Goals as goal

pub returns-clause-atom : goal.returns-clause-atom
returns-clause-atom c =
    let ts = tokens_of c.args.rest.now in
    let rest = tokens_of c.in_ok-rest.rest.now in
    let same : c.args.word.now ≡ codes "portvalue" = search rules in
    λ names. front_is names (port_value_before (word c.args.word.now ∷ ts)) P.port_value rest (record { term = c.port_value-term.result; rest = c.in_ok-rest.rest })
    (port_value_is c.args.word.now ts rest same c.in_ok-rest.ensures.rest) (c.port_value-term.ensures names) refl
