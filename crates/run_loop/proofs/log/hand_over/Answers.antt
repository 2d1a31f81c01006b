use Rattle.std.proofs.Common.{[]}
use Rattle.run_loop.specs.declared.outputs.Output.TheVariants.{Log}
use Rattle.run_loop.specs.AskedFiles.{names_of}
use Rattle.run_loop.specs.Order.{piece_of}
use Rattle.run_loop.proofs.Adding.{fell_at_once}
use Rattle.run_loop.proofs.log.hand_over.Goals as goal

pub returns-in-Err-clause-hands : goal.returns-in-Err-clause-hands
returns-in-Err-clause-hands g c = λ bytes h.
    fell_at_once (names_of c.args.asked.now) (piece_of Log bytes) [] (g.R.Room.outside c.args.room.now)
