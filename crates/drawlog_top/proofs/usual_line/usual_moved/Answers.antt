use Rattle.std.proofs.Common.{sym}
use Rattle.drawlog_top.specs.LeafRead.{named_leaf}
use Rattle.drawlog_top.specs.LineRead.{line_of}
use Rattle.drawlog_top.proofs.UsualLines.{moved_in_front}
use Rattle.drawlog_top.proofs.usual_line.usual_moved.Goals as goal

pub returns-clause-line : goal.returns-clause-line
returns-clause-line c =
    moved_in_front line_of c.moved.result c.args.time (named_leaf c.args.leaf.now) c.in-Some.state c.in_ok-next.next
    c.args.text.now c.in-Some.behind_state.now c.moved.ensures.line c.requires.leaf c.requires.time c.in-Some.ensures.0 c.in-Some.ensures.1 (sym c.in_ok-next.ensures)
