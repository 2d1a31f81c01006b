use Rattle.drawlog_top.proofs.StrictLemmas.{word_before}
use Rattle.drawlog_top.proofs.parts.word_in_front.Goals as goal

pub returns : goal.returns
returns c = word_before c.args.text.now c.cut_at.result.0.now c.cut_at.result.1.now c.in_ok-behind.behind.now c.cut_at.ensures.before c.cut_at.ensures.after c.in_ok-behind.ensures
