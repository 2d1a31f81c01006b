use Rattle.std.proofs.Common.{◌≡◌, drop}
use Rattle.rule_words.specs.RuleOf.{words_refused}
use Rattle.rule_words.specs.Shown.{tokens_of}
use Rattle.rule_words.specs.Tokens.{words_after, words_in}
use Rattle.rule_words.proofs.tokens.words_refused.Given as goal

abbrev pub invariant-loop-token : goal.invariant-loop-token
invariant-loop-token l = words_refused (words_after l.named (tokens_of (drop l.token-index l.tokens))) ≡ words_refused (words_in (tokens_of l.tokens))
