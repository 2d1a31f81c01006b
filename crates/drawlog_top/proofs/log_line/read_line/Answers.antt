use Rattle.std.proofs.Common.{◌∙◌}
use Rattle.drawlog_top.specs.LineRead.{line_of}
use Rattle.drawlog_top.proofs.StrictLines.{line_as_read, strict}
use Rattle.drawlog_top.proofs.log_line.read_line.Goals as goal

pub returns-in-Some-clause-line : goal.returns-in-Some-clause-line
returns-in-Some-clause-line c = line_as_read c.args.text.now (line_of c.in-Some.line) c.in-Some.ensures.line

pub returns-in-None-clause-line : goal.returns-in-None-clause-line
returns-in-None-clause-line c = c.strict_line.ensures.line ∙ strict c.args.text.now
