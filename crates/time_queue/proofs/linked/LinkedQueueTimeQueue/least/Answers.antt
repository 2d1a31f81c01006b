use Rattle.std.proofs.Common.{sym, ap, ◌∙◌}
use Rattle.time_queue.specs.Waiting.{least_time}
use Rattle.time_queue.proofs.Lines.{least_first}
use Rattle.time_queue.proofs.linked.LinkedQueueTimeQueue.least.Goals as goal

pub returns : goal.returns
returns c = c.least.ensures ∙ sym (least_first c.self.inside.lists c.self.invariant) ∙ ap least_time c.self.view_is
