use Rattle.std.proofs.lemmas.Result.{on_ok_weaker}
use Rattle.frame_draw.specs.Pictures.{cells_text}
use Rattle.frame_draw.proofs.Texts.{kept_on, between_on}
use Rattle.frame_draw.proofs.rows.put_row.Goals as goal

pub returns-in_err-put-clause-kept : goal.returns-in_err-put-clause-kept
returns-in_err-put-clause-kept c = c.in_err-put.ensures.kept

pub returns-in_err-put_cells-clause-kept : goal.returns-in_err-put_cells-clause-kept
returns-in_err-put_cells-clause-kept c = kept_on c.args.into.now.items c.put.new.into.items c.put_cells.new.into.items c.in_ok-put.ensures.kept c.in_err-put_cells.ensures.kept

pub returns-clause-ok : goal.returns-clause-ok
returns-clause-ok c =
    let p = c.args.plane.now in
    on_ok_weaker c.put-2.result
    (λ e. between_on 124 c.args.into.now.items c.put.new.into.items c.put_cells.new.into.items c.put-2.new.into.items (cells_text p c.args.values.now c.args.row p.grid.columns)
    c.in_ok-put.ensures.ok c.in_ok-put_cells.ensures.ok e) c.put-2.ensures.ok

pub returns-clause-kept : goal.returns-clause-kept
returns-clause-kept c =
    kept_on c.args.into.now.items c.put_cells.new.into.items c.put-2.new.into.items
    (kept_on c.args.into.now.items c.put.new.into.items c.put_cells.new.into.items c.in_ok-put.ensures.kept c.in_ok-put_cells.ensures.kept) c.put-2.ensures.kept
