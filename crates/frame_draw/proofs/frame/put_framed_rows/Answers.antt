use Rattle.std.proofs.lemmas.Result.{on_ok_weaker}
use Rattle.text_forms.specs.Frames.{edge}
use Rattle.frame_draw.specs.Pictures.{picture_of, rows_text}
use Rattle.frame_draw.proofs.Texts.{kept_on, three_on}
use Rattle.frame_draw.proofs.frame.put_framed_rows.Goals as goal

pub returns-in_err-put_edge-clause-kept : goal.returns-in_err-put_edge-clause-kept
returns-in_err-put_edge-clause-kept c = c.in_err-put_edge.ensures.kept

pub returns-in_err-put_rows-clause-kept : goal.returns-in_err-put_rows-clause-kept
returns-in_err-put_rows-clause-kept c = kept_on c.args.into.now.items c.put_edge.new.into.items c.put_rows.new.into.items c.in_ok-put_edge.ensures.kept c.in_err-put_rows.ensures.kept

pub returns-clause-ok : goal.returns-clause-ok
returns-clause-ok c =
    let p = c.args.plane.now in
    on_ok_weaker c.put_edge-2.result
    (λ e. three_on c.args.into.now.items c.put_edge.new.into.items c.put_rows.new.into.items c.put_edge-2.new.into.items (edge (picture_of p)) (rows_text p c.args.values.now p.grid.rows) (edge (picture_of p))
    c.in_ok-put_edge.ensures.ok c.in_ok-put_rows.ensures.ok e) c.put_edge-2.ensures.ok

pub returns-clause-kept : goal.returns-clause-kept
returns-clause-kept c =
    kept_on c.args.into.now.items c.put_rows.new.into.items c.put_edge-2.new.into.items
    (kept_on c.args.into.now.items c.put_edge.new.into.items c.put_rows.new.into.items c.in_ok-put_edge.ensures.kept c.in_ok-put_rows.ensures.kept) c.put_edge-2.ensures.kept
