use Rattle.std.proofs.Common.{codes}
use Rattle.std.proofs.lemmas.Result.{on_ok_weaker}
use Rattle.quantity.specs.Times.{time_text}
use Rattle.frame_draw.proofs.Texts.{kept_on, kept_more, kept_same, line_on}
use Rattle.frame_draw.proofs.frame.put_time.Goals as goal

pub returns-in_err-put-clause-kept : goal.returns-in_err-put-clause-kept
returns-in_err-put-clause-kept c = c.in_err-put.ensures.kept

pub returns-in_err-text-clause-kept : goal.returns-in_err-text-clause-kept
returns-in_err-text-clause-kept c = kept_same c.args.into.now.items c.put.new.into.items c.text.new.into.items c.in_ok-put.ensures.kept c.in_err-text.ensures.err

pub returns-clause-ok : goal.returns-clause-ok
returns-clause-ok c =
    on_ok_weaker c.put-2.result
    (λ e. line_on c.args.into.now.items c.put.new.into.items c.text.new.into.items c.put-2.new.into.items (codes "Time: ") (time_text c.args.at) c.in_ok-put.ensures.ok c.in_ok-text.ensures.ok e) c.put-2.ensures.ok

pub returns-clause-kept : goal.returns-clause-kept
returns-clause-kept c =
    kept_on c.args.into.now.items c.text.new.into.items c.put-2.new.into.items
    (kept_more c.args.into.now.items c.put.new.into.items c.text.new.into.items (time_text c.args.at) c.in_ok-put.ensures.kept c.in_ok-text.ensures.ok) c.put-2.ensures.kept
