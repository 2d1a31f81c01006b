use Rattle.rule_words.proofs.word.is_plain.Goals as goal

pub returns : goal.returns
returns c = c.is_in.ensures
