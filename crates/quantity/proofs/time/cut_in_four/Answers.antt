use Rattle.quantity.proofs.TimeLemmas.{parsed_parts-cut}
use Rattle.quantity.proofs.time.cut_in_four.Goals as goal

pub returns : goal.returns
returns c = λ most. parsed_parts-cut most c.args.text.now c.cut_at.result.1.now c.cut_at-2.result.1.now c.cut_at.result.0.now c.cut_at-2.result.0.now c.cut_at-3.result.0.now c.cut_at-3.result.1.now
    c.cut_at.ensures.before c.cut_at.ensures.after c.cut_at-2.ensures.before c.cut_at-2.ensures.after c.cut_at-3.ensures.before c.cut_at-3.ensures.after
