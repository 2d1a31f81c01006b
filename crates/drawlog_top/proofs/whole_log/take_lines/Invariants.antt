use Rattle.std.proofs.Common.{◌≡◌, ◌+◌, ◌≤◌, length}
use Rattle.std.specs.List.{slice_split}
use Rattle.drawlog_top.specs.SoFar.{drawn_from}
use Rattle.drawlog_top.proofs.DrawnLines.{is_end}
use Rattle.drawlog_top.proofs.whole_log.take_lines.Given as goal

abbrev pub invariant-loop-line : goal.invariant-loop-line
invariant-loop-line l = record {
  whole : drawn_from l.group (l.lines + 1) l.before l.frames (slice_split is_end l.left) ≡ drawn_from l.group 1 0 l.fn.frames (slice_split is_end l.log);
  picture : l.frames.drawing.picture ≡ l.fn.frames.drawing.picture;
  count : l.lines + length l.left ≤ length l.log;
}

abbrev pub decreases-loop-line : goal.decreases-loop-line
decreases-loop-line l = length l.left
