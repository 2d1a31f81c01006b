use Rattle.std.proofs.Common.{sym, ◌∙◌}
use Rattle.rule_words.proofs.Sound.{some_same}
use Rattle.rule_phrases.proofs.Found.{phrase_found}
use Rattle.rule_syntax.proofs.RulesFound.{rule_found}
use Rattle.rule_syntax.proofs.texts.tokens_read_one_way.Goals as goal

pub returns : goal.returns
returns c =
    record {
      phrase = λ ts x y p q. some_same (sym (phrase_found ts x p) ∙ phrase_found ts y q);
      rule = λ ts r s p q. some_same (sym (rule_found ts r p) ∙ rule_found ts s q);
    }
