use Rattle.std.proofs.Common.{sym, ◌∙◌}
use Rattle.atomic_kinds.proofs.Lines.{cpu_lines}
use Rattle.atomic_kinds.proofs.cpu.cpu_line_off.Goals as goal

pub returns : goal.returns
returns c = c.line_off.ensures ∙ sym (cpu_lines c.args.params.now.entries.items)
