use Rattle.run_loop.specs.Leaves.{spent_between}
use Rattle.run_loop.proofs.Marks.{MarksOn}
use Rattle.run_loop.proofs.Stands.{Stands}
use Rattle.run_loop.proofs.run.run_cycles.Given as goal

abbrev pub invariant-cycles : goal.invariant-cycles
invariant-cycles g l =
    Stands l.asked l.most l.left (g.C.Cycles.standing l.fn.run) (g.C.Cycles.standing l.run) l.fn.going l.going.drawn l.going.counted l.going.cycles (g.R.Room.outside l.fn.room) (g.R.Room.outside l.room)
    (spent_between g.C.Cycles.is_counted l.fn.steps l.steps)
    × MarksOn l.most l.left (g.C.Cycles.standing l.fn.run) (g.C.Cycles.standing l.run) (g.C.Cycles.marking l.fn.run) (g.C.Cycles.marking l.run)

abbrev pub decreases-cycles : goal.decreases-cycles
decreases-cycles g l = l.left
