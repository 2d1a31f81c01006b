use Rattle.std.proofs.Common.{rules}
use Rattle.room_edge.proofs.memory.is_of.Goals as goal

pub returns-then-eq : goal.returns-then-eq
returns-then-eq c = search rules
