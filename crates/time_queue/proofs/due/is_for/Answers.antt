use Rattle.std.proofs.Common.{rules}
use Rattle.time_queue.proofs.due.is_for.Goals as goal

pub returns-in-Some : goal.returns-in-Some
returns-in-Some c = search rules
