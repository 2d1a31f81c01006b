use Rattle.std.proofs.Common.{[], Some, ap, sym, ◌∙◌}
use Rattle.std.specs.Prelude.{if◌then◌else◌}
use Rattle.quantity.specs.Bytes.{is_among}
use Rattle.rule_words.specs.declared.refusal.RuleRefusal.TheVariants.{RandomRefused, UnknownFunction}
use Rattle.rule_words.specs.RuleOf.{language, random_names}
use Rattle.rule_words.proofs.StrangeWords.{known_word, strange_word}
use Rattle.rule_words.proofs.word.word_refused.Goals as goal

pub returns-then-is_of_language : goal.returns-then-is_of_language
returns-then-is_of_language c = sym (known_word (is_among language) (is_among random_names) c.args.word.now [] (sym c.is_of_language.ensures ∙ c.if-is_of_language.true))

pub returns-then-is_random : goal.returns-then-is_random
returns-then-is_random c =
    sym (strange_word (is_among language) (is_among random_names) c.args.word.now [] (sym c.is_of_language.ensures ∙ c.if-is_of_language.false)
    ∙ ap (λ b. if b then Some RandomRefused else Some UnknownFunction) (sym c.is_random.ensures ∙ c.if-is_random.true))

pub returns-else-is_random : goal.returns-else-is_random
returns-else-is_random c =
    sym (strange_word (is_among language) (is_among random_names) c.args.word.now [] (sym c.is_of_language.ensures ∙ c.if-is_of_language.false)
    ∙ ap (λ b. if b then Some RandomRefused else Some UnknownFunction) (sym c.is_random.ensures ∙ c.if-is_random.false))
