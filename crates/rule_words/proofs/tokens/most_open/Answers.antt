use Rattle.std.proofs.Common.{◌≡◌, ◌+◌, ap, ◌∙◌, arith, drop}
use Rattle.std.specs.Prelude.{max}
use Rattle.rule_words.specs.Shown.{tokens_of}
use Rattle.rule_words.specs.Tokens.{deepest}
use Rattle.rule_words.proofs.OpenParentheses.{maximum, one_more-at}
use Rattle.rule_words.proofs.tokens.most_open.Goals as goal

pub loop-token-preserved : goal.loop-token-preserved
loop-token-preserved c =
    let ts = c.args.tokens.now in
    let i = c.loop-token.token-index in
    let behind = tokens_of (drop (i + 1) ts) in
    let most : c.max-most.result ≡ max c.loop-token.most c.open_after-opened.result = c.max-most.ensures ∙ maximum c.loop-token.most c.open_after-opened.result in
    record {
      value =
          ap (λ m. max m (deepest c.open_after-opened.result behind)) most
          ∙ ap (λ n. max (max c.loop-token.most n) (deepest n behind)) c.open_after-opened.ensures.value
          ∙ one_more-at c.loop-token.most c.loop-token.opened ts i _ c.loop-token-test.true c.loop-token.invariant.least
          ∙ c.loop-token.invariant.value;
      least = omega arith;
      bound = omega arith;
    }
