use Rattle.std.proofs.Common.{◌++◌, ◌∙◌, ap}
use Rattle.std.specs.Prelude.{codes}
use Rattle.quantity.specs.ValueTexts.{text5}
use Rattle.run_loop.proofs.lines.delay_line.Goals as goal

pub returns : goal.returns
returns c = λ settings.
    c.in_ok-extend_from_slice-2.ensures.items ∙ ap (λ x. x ++ codes "\n")
    (c.in_ok-text5.ensures.ok ∙ ap (λ x. x ++ text5 c.args.delay) (c.in_ok-extend_from_slice.ensures.items ∙ ap (λ x. x ++ codes ": ") (c.in_ok-line.ensures settings)))
