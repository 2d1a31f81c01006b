use Rattle.std.proofs.Common.{Some}
use Rattle.text_forms.specs.StateOf.{read_at}
use Rattle.state_lines.specs.Parts.{parts_of}
use Rattle.state_lines.proofs.Heads.{here}
use Rattle.state_lines.proofs.parts.time_line.Goals as goal

pub returns-clause-value : goal.returns-clause-value
returns-clause-value c =
    here read_at (parts_of c.args.text.now) c.in_ok-line.line.now c.in_ok-line.behind.now
    (Some c.in_ok-time.time) c.in_ok-line.ensures.parts c.in_ok-time.ensures
