use Rattle.std.proofs.Common.{sym}
use Rattle.std.proofs.Math.Seq.{take-length}
use Rattle.std.proofs.lemmas.List.{append-nil}
use Rattle.text_forms.specs.Frames.{row_text}
use Rattle.frame_draw.specs.Drawing.{value_of_cell}
use Rattle.frame_draw.specs.Pictures.{picture_of}
use Rattle.frame_draw.proofs.Texts.{kept_on, none_known, range_texts}
use Rattle.frame_draw.proofs.rows.put_rows.Goals as goal

pub loop-row-preserved : goal.loop-row-preserved
loop-row-preserved c = record {
  known = c.in_ok-put_row.ensures.known;
  appended = range_texts (row_text (picture_of c.args.plane.now) (value_of_cell c.args.values.now)) c.args.into.now.items c.loop-row.into.items c.put_row.new.into.items c.loop-row.row c.loop-row.invariant.appended c.in_ok-put_row.ensures.ok;
  kept = kept_on c.args.into.now.items c.loop-row.into.items c.put_row.new.into.items c.loop-row.invariant.kept c.in_ok-put_row.ensures.kept;
}

pub loop-row-init : goal.loop-row-init
loop-row-init c = record {
  known = none_known c.args.plane.now.decimals c.args.plane.now.width c.new-texts.result c.new-texts.ensures.first c.new-texts.ensures.second;
  appended = sym (append-nil c.args.into.now.items);
  kept = take-length c.args.into.now.items;
}

pub returns-in_err-put_row-clause-kept : goal.returns-in_err-put_row-clause-kept
returns-in_err-put_row-clause-kept c = kept_on c.args.into.now.items c.loop-row.into.items c.put_row.new.into.items c.loop-row.invariant.kept c.in_err-put_row.ensures.kept

pub returns-clause-kept : goal.returns-clause-kept
returns-clause-kept c = c.loop-row.invariant.kept
