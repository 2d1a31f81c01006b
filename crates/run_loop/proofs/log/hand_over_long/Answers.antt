use Rattle.run_loop.specs.AskedFiles.{names_of}
use Rattle.run_loop.proofs.Handing.{hands_none}
use Rattle.run_loop.proofs.log.hand_over_long.Goals as goal

pub returns-then-len-lt-LONG-clause-hands : goal.returns-then-len-lt-LONG-clause-hands
returns-then-len-lt-LONG-clause-hands g c =
    hands_none (names_of c.args.asked.now) c.args.piece.now.items (g.R.Room.outside c.args.room.now)
