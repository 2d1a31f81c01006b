use Rattle.rule_words.proofs.Sound.{phrases_are_found}
use Rattle.rule_syntax.proofs.Rules.{rules_are_found}
use Rattle.rule_phrases.proofs.Found.{phrase_found}
use Rattle.rule_syntax.proofs.RulesFound.{rule_found}
use Rattle.rule_syntax.proofs.texts.the_grammar_is_found.Goals as goal

pub returns : goal.returns
returns c =
    record {
      phrase = λ ts x. (phrases_are_found ts x, phrase_found ts x);
      rule = λ ts r. (rules_are_found ts r, rule_found ts r);
    }
