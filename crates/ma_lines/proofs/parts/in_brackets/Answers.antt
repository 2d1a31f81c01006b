use Rattle.std.proofs.Common.{ap, ◌∙◌, [], ◌∷◌, ◌++◌}
use Rattle.ma_lines.proofs.HeadingNames.{inside-brackets}
use Rattle.ma_lines.proofs.parts.in_brackets.Goals as goal

pub returns-then-last-eq93 : goal.returns-then-last-eq93
returns-then-last-eq93 c =
    inside-brackets c.args.text.now c.in_ok-first.rest.now c.in_ok-last.inner.now
    (c.in_ok-first.ensures.cases.0 ∙ ap (λ b. b ∷ c.in_ok-first.rest.now) c.if-first-eq91.true)
    (c.in_ok-last.ensures.cases.0 ∙ ap (λ b. c.in_ok-last.inner.now ++ b ∷ []) c.if-last-eq93.true)
