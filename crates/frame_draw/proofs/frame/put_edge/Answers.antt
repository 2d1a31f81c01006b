use Rattle.frame_draw.proofs.Texts.{kept_on}
use Rattle.frame_draw.proofs.frame.put_edge.Goals as goal

pub returns-in_err-put-clause-kept : goal.returns-in_err-put-clause-kept
returns-in_err-put-clause-kept c = c.in_err-put.ensures.kept

pub returns-in_err-put_dashes-clause-kept : goal.returns-in_err-put_dashes-clause-kept
returns-in_err-put_dashes-clause-kept c = kept_on c.args.into.now.items c.put.new.into.items c.put_dashes.new.into.items c.in_ok-put.ensures.kept c.in_err-put_dashes.ensures.kept

pub returns-clause-kept : goal.returns-clause-kept
returns-clause-kept c =
    kept_on c.args.into.now.items c.put_dashes.new.into.items c.put-2.new.into.items
    (kept_on c.args.into.now.items c.put.new.into.items c.put_dashes.new.into.items c.in_ok-put.ensures.kept c.in_ok-put_dashes.ensures.kept) c.put-2.ensures.kept
