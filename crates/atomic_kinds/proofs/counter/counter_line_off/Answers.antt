use Rattle.std.proofs.Common.{sym}
use Rattle.atomic_kinds.proofs.Lines.{counter_lines}
use Rattle.atomic_kinds.proofs.counter.counter_line_off.Goals as goal

pub returns : goal.returns
returns c =
    rw (c.least-2.ensures, c.least.ensures, c.line_off-delay.ensures, c.line_off-start.ensures, c.line_off-step.ensures) (sym (counter_lines c.args.params.now.entries.items))
