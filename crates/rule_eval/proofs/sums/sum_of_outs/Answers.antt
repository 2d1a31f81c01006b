use Rattle.std.proofs.Common.{None, Some, sym, ◌∙◌}
use Rattle.quantity.specs.declared.value.Value.TheVariants.{Num}
use Rattle.rule_eval.specs.Seen.{neighbours_of}
use Rattle.rule_eval.proofs.FormSums.{undefined_here, number_here}
use Rattle.rule_eval.proofs.sums.sum_of_outs.Goals as goal

pub returns-in-Undefined : goal.returns-in-Undefined
returns-in-Undefined c =
    sym (undefined_here c.args.more.now c.loop-at.at-index c.loop-at.total
    (neighbours_of c.args.view.now) c.out_at.result c.loop-at-test.true c.out_at.ensures
    c.in-Undefined.is)
    ∙ c.loop-at.invariant

pub returns-in-None : goal.returns-in-None
returns-in-None c =
    sym (number_here c.args.more.now c.loop-at.at-index c.loop-at.total c.in-Num.number
    (neighbours_of c.args.view.now) c.out_at.result None c.loop-at-test.true
    c.out_at.ensures c.in-Num.is c.in-None.ensures)
    ∙ c.loop-at.invariant

pub loop-at-preserved : goal.loop-at-preserved
loop-at-preserved c =
    sym (number_here c.args.more.now c.loop-at.at-index c.loop-at.total c.in-Num.number
    (neighbours_of c.args.view.now) c.out_at.result (Some (Num c.in-Some.sum))
    c.loop-at-test.true c.out_at.ensures c.in-Num.is c.in-Some.ensures)
    ∙ c.loop-at.invariant
