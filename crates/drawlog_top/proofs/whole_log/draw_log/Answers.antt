use Rattle.std.proofs.Common.{Ok, sym, ap, ◌∙◌}
use Rattle.std.specs.List.{slice_split}
use Rattle.quantity.specs.Bytes.{Bytes}
use Rattle.text_forms.specs.Frames.{Picture}
use Rattle.drawlog_top.specs.SoFar.{SoFar, drawn_from}
use Rattle.drawlog_top.proofs.DrawnLines.{is_end, drawn_whole}
use Rattle.drawlog_top.proofs.whole_log.draw_log.Goals as goal

pub returns : goal.returns
returns c =
    let group = c.args.group.now in
    let log = c.args.log.now in
    let p : Picture = record { space = c.args.grid.now; plane = c.args.plane; width = c.args.width; decimals = c.args.decimals } in
    sym (drawn_whole c.frames_are_drawn_in_turn.ensures p group log)
    ∙ ap (λ (d : SoFar). drawn_from group 1 0 d (slice_split is_end log)) (sym c.in_ok-frames.ensures)
    ∙ c.in_ok-take_lines.ensures
    ∙ ap (λ (text : Bytes). Ok text) (sym c.in_ok-finish.ensures)
