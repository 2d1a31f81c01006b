use Rattle.std.proofs.Common.{◌||◌, ap, is_some, sym, ◌∙◌}
use Rattle.quantity.specs.Bytes.{is_among}
use Rattle.rule_tree.specs.Phrases.{first_texts, functions}
use Rattle.rule_words.proofs.StrangeWords.{is_some-looked_up, language-split}
use Rattle.rule_words.proofs.word.is_of_language.Goals as goal

pub returns-then-is_plain : goal.returns-then-is_plain
returns-then-is_plain c =
    let w = c.args.word.now in
    c.if-is_plain.true
    ∙ sym (language-split w ∙ ap (λ b. b || is_among (first_texts functions) w) (sym c.is_plain.ensures ∙ c.if-is_plain.true))

pub returns-else-is_plain : goal.returns-else-is_plain
returns-else-is_plain c =
    let w = c.args.word.now in
    c.is_some.ensures
    ∙ ap is_some c.function_in.ensures
    ∙ is_some-looked_up functions w
    ∙ sym (language-split w ∙ ap (λ b. b || is_among (first_texts functions) w) (sym c.is_plain.ensures ∙ c.if-is_plain.false))
