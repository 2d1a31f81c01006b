use Rattle.std.proofs.Common.{refl}
use Rattle.quantity.specs.declared.value.Value.TheVariants.{Undefined}
use Rattle.rule_tree.specs.Phrases as P
use Rattle.rule_words.specs.Reading.{question_before}
use Rattle.rule_words.specs.Shown.{tokens_of}
use Rattle.rule_phrases.proofs.Fronts.{front_is, question_is}
use Rattle.rule_phrases.proofs.atom.question_before.Goals as goal

pub returns-clause-atom : goal.returns-clause-atom
returns-clause-atom c =
    let ts = tokens_of c.args.tokens.now in
    let rest = tokens_of c.in_ok-rest.rest.now in
    λ names. front_is names (question_before ts) (P.value Undefined) rest (record { term = c.value-term.result; rest = c.in_ok-rest.rest })
    (question_is ts rest c.in_ok-rest.ensures.rest) (c.value-term.ensures names) refl
