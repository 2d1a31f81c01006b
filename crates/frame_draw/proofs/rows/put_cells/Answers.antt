use Rattle.std.proofs.Common.{◌++◌, ap, sym, ◌∙◌}
use Rattle.std.proofs.Math.Seq.{take-length}
use Rattle.std.proofs.lemmas.List.{append-nil}
use Rattle.frame_draw.specs.Pictures.{cell_text, value_at}
use Rattle.frame_draw.proofs.Texts.{kept_on, range_texts}
use Rattle.frame_draw.proofs.rows.put_cells.Goals as goal

pub loop-column-preserved : goal.loop-column-preserved
loop-column-preserved c = record {
  known = c.in_ok-put_cell.ensures.known;
  appended = range_texts (cell_text c.args.plane.now c.args.values.now c.args.row) c.args.into.now.items c.loop-column.into.items c.put_cell.new.into.items c.loop-column.column c.loop-column.invariant.appended
      (c.in_ok-put_cell.ensures.ok ∙ ap (λ n. c.loop-column.into.items ++ value_at c.args.plane.now c.args.values.now n) c.cell_number-cell.ensures.value);
  kept = kept_on c.args.into.now.items c.loop-column.into.items c.put_cell.new.into.items c.loop-column.invariant.kept c.in_ok-put_cell.ensures.kept;
}

pub loop-column-init : goal.loop-column-init
loop-column-init c = record {
  known = c.requires.known;
  appended = sym (append-nil c.args.into.now.items);
  kept = take-length c.args.into.now.items;
}

pub returns-in_err-put_cell-clause-kept : goal.returns-in_err-put_cell-clause-kept
returns-in_err-put_cell-clause-kept c = kept_on c.args.into.now.items c.loop-column.into.items c.put_cell.new.into.items c.loop-column.invariant.kept c.in_err-put_cell.ensures.kept

pub returns-clause-kept : goal.returns-clause-kept
returns-clause-kept c = c.loop-column.invariant.kept
