use Rattle.room_edge.proofs.Adding.{adds-adds, adds-puts, streams-streams}
use Rattle.room_edge.proofs.laws.pieces_add_up.Goals as goal

pub returns-clause-files : goal.returns-clause-files
returns-clause-files c = adds-adds

pub returns-clause-made : goal.returns-clause-made
returns-clause-made c = adds-puts

pub returns-clause-streams : goal.returns-clause-streams
returns-clause-streams c = streams-streams
