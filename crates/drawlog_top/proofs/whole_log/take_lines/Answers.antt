use Rattle.std.proofs.Common.{◌+◌, ◌<◌, ◌∷◌, length, sym, ap, ◌∙◌, arith}
use Rattle.std.specs.List.{slice_split}
use Rattle.std.proofs.lemmas.Bool.Decides.{nat_tests}
use Rattle.cell_grid.specs.Space.{Space}
use Rattle.text_forms.specs.Frames.{Picture}
use Rattle.drawlog_top.specs.Seen.{shown_cell_list, what_line_shows, seen_as}
use Rattle.drawlog_top.specs.SoFar.{SoFar, drawn_from}
use Rattle.drawlog_top.proofs.DrawnLines.{is_end, same_parts, picture_kept, drawn_next, drawn_not, drawn_open}
use Rattle.drawlog_top.proofs.whole_log.take_lines.Goals as goal

pub returns-in_default-see_line : goal.returns-in_default-see_line
returns-in_default-see_line c =
    let group = c.args.group.now in
    let before = c.loop-line.before in
    let left = c.loop-line.left.now in
    let part = c.in-Some.line.now in
    let behind = c.in-Some.behind.now in
    let was = c.loop-line.invariant in
    let space = ap (λ (p : Picture). p.space) was.picture ∙ c.requires.space in
    let cut = same_parts left ∙ c.in-Some.ensures.parts ∙ ap (λ ps. part ∷ ps) (sym (same_parts behind)) in
    let h = c.in_default-see_line in
    sym was.whole ∙ drawn_not group (c.loop-line.lines + 1) before c.loop-line.frames left part behind cut (ap (λ (s : Space). what_line_shows s group before part) space ∙ sym h.ensures.value)

pub loop-line-preserved : goal.loop-line-preserved
loop-line-preserved c =
    let group = c.args.group.now in
    let before = c.loop-line.before in
    let left = c.loop-line.left.now in
    let part = c.in-Some.line.now in
    let behind = c.in-Some.behind.now in
    let line = c.in-Some-see_line.seen in
    let was = c.loop-line.invariant in
    let space = ap (λ (p : Picture). p.space) was.picture ∙ c.requires.space in
    let cut = same_parts left ∙ c.in-Some.ensures.parts ∙ ap (λ ps. part ∷ ps) (sym (same_parts behind)) in
    let taken = c.in_ok-take_line.ensures in
    record {
      whole = ap (λ (d : SoFar). drawn_from group (c.loop-line.lines + 1 + 1) line.time d (slice_split is_end behind)) taken
          ∙ sym (drawn_next group (c.loop-line.lines + 1) before c.loop-line.frames left part behind (seen_as line) cut (ap (λ (s : Space). what_line_shows s group before part) space ∙ sym c.in-Some-see_line.ensures.value))
          ∙ was.whole;
      picture = ap (λ (d : SoFar). d.drawing.picture) taken ∙ picture_kept (shown_cell_list line.time line.given) c.loop-line.frames ∙ was.picture;
      count = omega (arith, c.in-Some.ensures.shorter, was.count);
    }

pub returns-else-is_empty : goal.returns-else-is_empty
returns-else-is_empty c =
    let left = c.loop-line.left.now in
    let was = c.loop-line.invariant in
    let cut = same_parts left ∙ c.in_default.ensures.parts in
    let empty = c.is_empty.ensures in
    let not_empty = c.if-is_empty.false in
    let some : 0 < length left = grind (arith, nat_tests) in
    sym was.whole ∙ drawn_open c.args.group.now (c.loop-line.lines + 1) c.loop-line.before c.loop-line.frames left cut some
