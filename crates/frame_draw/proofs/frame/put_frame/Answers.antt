use Rattle.std.proofs.Common.{[], ◌∷◌}
use Rattle.std.proofs.lemmas.Result.{on_ok_weaker}
use Rattle.text_forms.specs.Frames.{edge}
use Rattle.frame_draw.specs.Pictures.{picture_of, rows_text, time_line}
use Rattle.frame_draw.proofs.Texts.{kept_on, frame_on}
use Rattle.frame_draw.proofs.frame.put_frame.Goals as goal

pub returns-in_err-put_time-clause-kept : goal.returns-in_err-put_time-clause-kept
returns-in_err-put_time-clause-kept c = c.in_err-put_time.ensures.kept

pub returns-in_err-put_framed_rows-clause-kept : goal.returns-in_err-put_framed_rows-clause-kept
returns-in_err-put_framed_rows-clause-kept c = kept_on c.args.into.now.items c.put_time.new.into.items c.put_framed_rows.new.into.items c.in_ok-put_time.ensures.kept c.in_err-put_framed_rows.ensures.kept

pub returns-clause-ok : goal.returns-clause-ok
returns-clause-ok c =
    let p = c.args.plane.now in
    on_ok_weaker c.put.result
    (λ e. frame_on c.args.into.now.items c.put_time.new.into.items c.put_framed_rows.new.into.items c.put.new.into.items (time_line c.args.at) (edge (picture_of p)) (rows_text p c.args.values.now p.grid.rows) (10 ∷ [])
    c.in_ok-put_time.ensures.ok c.in_ok-put_framed_rows.ensures.ok e) c.put.ensures.ok

pub returns-clause-kept : goal.returns-clause-kept
returns-clause-kept c =
    kept_on c.args.into.now.items c.put_framed_rows.new.into.items c.put.new.into.items
    (kept_on c.args.into.now.items c.put_time.new.into.items c.put_framed_rows.new.into.items c.in_ok-put_time.ensures.kept c.in_ok-put_framed_rows.ensures.kept) c.put.ensures.kept
