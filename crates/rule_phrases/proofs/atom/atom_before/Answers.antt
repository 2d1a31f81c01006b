use Rattle.std.proofs.Common.{◌≡◌, ◌∷◌, rules}
use Rattle.rule_words.specs.Shown.{names_of}
use Rattle.rule_phrases.proofs.Fronts.{at_number, at_word}
use Rattle.rule_phrases.proofs.atom.atom_before.Goals as goal

pub returns-in-Number-clause-atom : goal.returns-in-Number-clause-atom
returns-in-Number-clause-atom c =
    let split : c.args.tokens.now ≡ c.in_ok-first.first.now ∷ c.in_ok-first.rest.now = search rules in
    at_number (names_of c.args.names.now) c.args.tokens.now c.in_ok-first.rest.now c.in_ok-first.first.now c.in-Number.text c.number_atom.result split c.in-Number.is
    (c.number_atom.ensures.atom (names_of c.args.names.now))

pub returns-in-Word-clause-atom : goal.returns-in-Word-clause-atom
returns-in-Word-clause-atom c =
    let split : c.args.tokens.now ≡ c.in_ok-first.first.now ∷ c.in_ok-first.rest.now = search rules in
    at_word (names_of c.args.names.now) c.args.tokens.now c.in_ok-first.rest.now c.in_ok-first.first.now c.in-Word.word c.word_before.result split c.in-Word.is
    (c.word_before.ensures.atom (names_of c.args.names.now))
