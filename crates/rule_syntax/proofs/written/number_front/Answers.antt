use Rattle.rule_tree.specs.Phrases as P
use Rattle.rule_words.specs.Reading.{number_before}
use Rattle.rule_words.specs.Shown.{tokens_of}
use Rattle.rule_syntax.proofs.ReadParts.{front_read}
use Rattle.rule_syntax.proofs.written.number_front.Goals as goal

pub returns : goal.returns
returns c = λ names. front_read names (number_before (tokens_of c.args.tokens.now)) (P.value c.in-Some.value) _ c.in-Some.ensures (c.value.ensures names)
