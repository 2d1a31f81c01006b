use Rattle.std.proofs.Common.{◌≡◌, drop}
use Rattle.quantity.specs.declared.value.Value.TheVariants.{Num}
use Rattle.rule_eval.specs.Seen.{neighbours_of}
use Rattle.rule_eval.specs.Sums.{sum_from}
use Rattle.rule_eval.proofs.sums.sum_of_outs.Given as goal

abbrev pub invariant-loop-at : goal.invariant-loop-at
invariant-loop-at l =
    sum_from (Num l.total) (drop l.at-index l.more) (neighbours_of l.view)
    ≡ sum_from (Num l.fn.first) l.more (neighbours_of l.view)
