use Rattle.std.proofs.Common.{sym}
use Rattle.atomic_kinds.proofs.Lines.{generator_lines}
use Rattle.atomic_kinds.proofs.generator.generator_line_off.Goals as goal

pub returns : goal.returns
returns c =
    rw (c.least-3.ensures, c.least-2.ensures, c.least-last.ensures, c.least.ensures, c.line_off-start.ensures, c.line_off-period.ensures, c.line_off-value.ensures, c.line_off-step.ensures, c.line_off-count.ensures) (sym (generator_lines c.args.params.now.entries.items))
