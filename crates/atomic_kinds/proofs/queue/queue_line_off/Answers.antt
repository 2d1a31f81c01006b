use Rattle.std.proofs.Common.{sym, ◌∙◌}
use Rattle.atomic_kinds.proofs.Lines.{queue_lines}
use Rattle.atomic_kinds.proofs.queue.queue_line_off.Goals as goal

pub returns : goal.returns
returns c = c.line_off.ensures ∙ sym (queue_lines c.args.params.now.entries.items)
