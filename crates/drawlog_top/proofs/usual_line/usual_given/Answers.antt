use Rattle.std.proofs.Common.{sym}
use Rattle.drawlog_top.specs.LeafRead.{named_leaf}
use Rattle.drawlog_top.specs.LineRead.{line_of}
use Rattle.drawlog_top.proofs.UsualLines.{given_in_front}
use Rattle.drawlog_top.proofs.usual_line.usual_given.Goals as goal

pub returns-clause-line : goal.returns-clause-line
returns-clause-line c =
    given_in_front line_of c.given.result c.args.letter c.args.time (named_leaf c.args.leaf.now) c.in_ok-port.port.now c.in_ok-value.value
    c.args.text.now c.in_ok-port.behind_port.now c.given.ensures.line c.requires.leaf c.requires.time c.in_ok-port.ensures.0 c.in_ok-port.ensures.1 (sym c.in_ok-value.ensures)
