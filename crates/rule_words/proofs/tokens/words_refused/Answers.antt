use Rattle.std.proofs.Common.{◌+◌, ap, sym, ◌∙◌, drop}
use Rattle.quantity.specs.Bytes.{is_among}
use Rattle.rule_words.specs.RuleOf.{language, random_names, words_refused}
use Rattle.rule_words.specs.Shown.{tokens_of}
use Rattle.rule_words.specs.Tokens.{words_after}
use Rattle.rule_words.proofs.StrangeWords.{a_refusal-at, no_refusal-at}
use Rattle.rule_words.proofs.tokens.words_refused.Goals as goal

pub returns-in-Some : goal.returns-in-Some
returns-in-Some c =
    sym (a_refusal-at (is_among language) (is_among random_names) c.loop-token.named c.args.tokens.now c.loop-token.token-index _ c.in-Some.refusal c.loop-token-test.true (sym c.refused_at.ensures ∙ c.in-Some.is))
    ∙ c.loop-token.invariant

pub loop-token-preserved : goal.loop-token-preserved
loop-token-preserved c =
    ap (λ named. words_refused (words_after named (tokens_of (drop (c.loop-token.token-index + 1) c.args.tokens.now)))) c.is_sigil-named.ensures
    ∙ no_refusal-at (is_among language) (is_among random_names) c.loop-token.named c.args.tokens.now c.loop-token.token-index _ c.loop-token-test.true (sym c.refused_at.ensures ∙ c.in_default.is)
    ∙ c.loop-token.invariant
