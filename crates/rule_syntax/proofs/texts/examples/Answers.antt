use Rattle.std.proofs.Common.{refl}
use Rattle.rule_words.specs.Tokens.{tokens}
use Rattle.rule_words.specs.Reading.{written_rule}
use Rattle.rule_words.specs.RuleOf.{rule_of_text}
use Rattle.rule_syntax.proofs.texts.examples.Goals as goal

pub returns : goal.returns
unfolding tokens written_rule rule_of_text
returns c = record { pieces = refl; no_piece = refl; plain = refl; minus = refl; cell = refl; to_the_left = refl; logic = refl; counts = refl; calls = refl; sets = refl; gives = refl; random = refl; stranger = refl; deep = refl; sort = refl; unknown = refl; short = refl; no_token = refl; no_variable = refl; no_port = refl; twice = refl; arguments = refl; compared_twice = refl }
