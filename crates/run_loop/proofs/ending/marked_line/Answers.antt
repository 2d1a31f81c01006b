use Rattle.std.proofs.Common.{◌++◌, ◌∙◌, ap}
use Rattle.std.specs.Prelude.{codes}
use Rattle.run_loop.specs.Ends.{mark_behind}
use Rattle.run_loop.proofs.ending.marked_line.Goals as goal

pub returns : goal.returns
returns c = λ settings cycles has.
    c.in_ok-extend_from_slice.ensures.items ∙ ap (λ x. x ++ codes "\n")
    (c.in_ok-put_mark.ensures ∙ ap (λ x. x ++ mark_behind c.args.mark) (c.in_ok-line.ensures settings cycles has))
