use Rattle.std.proofs.Common.{refl}
use Rattle.rule_words.specs.Shown.{tokens_of}
use Rattle.rule_phrases.proofs.Fronts.{number_at}
use Rattle.rule_phrases.proofs.atom.number_atom.Goals as goal

pub returns-clause-atom : goal.returns-clause-atom
returns-clause-atom c = λ names.
    number_at names c.args.text.now (tokens_of c.args.rest.now) c.in_ok-value.value (record { term = c.value-term.result; rest = c.args.rest })
    c.in_ok-value.ensures (c.value-term.ensures names) refl
