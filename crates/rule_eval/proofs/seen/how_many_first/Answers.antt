use Rattle.std.proofs.Common.{true, false, sym, ◌∙◌, add-zero, arith}
use Rattle.rule_eval.specs.Seen.{width_of}
use Rattle.rule_eval.proofs.Pieces.{counts_here}
use Rattle.rule_eval.proofs.seen.how_many_first.Goals as goal
use Rattle.rule_eval.proofs.seen.how_many_first.Goals.{then-is_same, else-is_same}

pub loop-k-preserved : goal.loop-k-preserved
loop-k-preserved c =
    let v = c.args.view.now in
    let same = c.loop-k.invariant.same in
    let here = counts_here c.args.wanted.now v.neighbours.now (width_of v) c.loop-k.k
    c.loop-k.count in
    elim c.if-is_same.branch [
      | then-is_same w ↦
          record { same = w.count-is ∙ here true (omega arith) same (cc); few = omega arith }
      | else-is_same w ↦
          record {
            same = w.count-is ∙ sym (add-zero c.loop-k.count)
                ∙ here false (omega arith) same (cc);
            few = omega arith;
          }
    ]
