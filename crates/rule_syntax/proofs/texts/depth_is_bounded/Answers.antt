use Rattle.std.proofs.Common.{refl}
use Rattle.rule_words.specs.Tokens.{tokens}
use Rattle.rule_words.specs.Reading.{written_rule}
use Rattle.rule_words.specs.RuleOf.{rule_of_text}
use Rattle.rule_syntax.proofs.texts.depth_is_bounded.Goals as goal

pub returns : goal.returns
unfolding tokens written_rule rule_of_text
returns c = record { many = refl; too_many = refl; most_and_no_rule = refl }
