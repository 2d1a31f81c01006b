use Rattle.std.proofs.Common.{sym, ◌∙◌}
use Rattle.model_text.specs.Forms.{is_rule_word}
use Rattle.model_walk.proofs.Texts.{all_texts}
use Rattle.model_keys.proofs.names.all_are_words.Goals as goal

pub returns : goal.returns
returns c = c.each_is_word.ensures ∙ sym (all_texts is_rule_word c.args.found.now)
