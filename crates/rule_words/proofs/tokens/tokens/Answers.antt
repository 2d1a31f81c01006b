use Rattle.std.proofs.Common.{ap, ◌∙◌}
use Rattle.std.specs.Bool.{then_some}
use Rattle.rule_words.specs.Shown.{tokens_of}
use Rattle.rule_words.specs.Tokens.{tokens}
use Rattle.rule_words.proofs.PieceTokens.{all_tokens, more_tokens, no_tokens}
use Rattle.rule_words.proofs.tokens.tokens.Goals as goal

pub returns-then-not-branch : goal.returns-then-not-branch
returns-then-not-branch c =
    no_tokens (tokens_of c.loop-piece.found.items) c.loop-piece.rest.now c.in-Some.piece.now c.in-Some.behind.now (tokens c.args.text.now) c.in-Some.ensures.pieces
    (c.in_ok-put_tokens.ensures ∙ ap (λ b. then_some b (tokens_of c.put_tokens.new.into.items)) c.if-not-branch.true)
    c.loop-piece.invariant

pub loop-piece-preserved : goal.loop-piece-preserved
loop-piece-preserved c =
    more_tokens (tokens_of c.loop-piece.found.items) (tokens_of c.put_tokens.new.into.items) c.loop-piece.rest.now c.in-Some.piece.now c.in-Some.behind.now (tokens c.args.text.now) c.in-Some.ensures.pieces
    (c.in_ok-put_tokens.ensures ∙ ap (λ b. then_some b (tokens_of c.put_tokens.new.into.items)) c.if-not-branch.false)
    c.loop-piece.invariant

pub returns : goal.returns
returns c = all_tokens (tokens_of c.loop-piece.found.items) c.loop-piece.rest.now (tokens c.args.text.now) c.in_default.ensures.pieces c.loop-piece.invariant
