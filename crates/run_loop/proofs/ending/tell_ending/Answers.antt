use Rattle.std.proofs.Common.{subst}
use Rattle.model_leaves.specs.Models.{tree_of}
use Rattle.asked_words.specs.Shown.{asked_of}
use Rattle.run_loop.specs.declared.ending.Ending.{Ending}
use Rattle.run_loop.specs.Ends.{IsVerdict}
use Rattle.run_loop.proofs.Ended.{done_said}
use Rattle.run_loop.proofs.ending.tell_ending.Goals as goal

pub returns-in-Done : goal.returns-in-Done
returns-in-Done g c = λ settings cycles v is has.
    let e = subst (λ (x : Ending). IsVerdict x v) c.in-Done.is is in
    done_said c.args.mark (asked_of c.args.asked.now) (tree_of c.args.model.now settings) cycles v (g.R.Room.outside c.args.room.now) (g.R.Room.outside c.show_done.new.room) c.show_done.result e (c.show_done.ensures settings cycles has)

pub returns-in-Stopped : goal.returns-in-Stopped
returns-in-Stopped g c = λ settings cycles v is has.
    c.complain_stop.ensures settings c.args.mark cycles v (subst (λ (x : Ending). IsVerdict x v) c.in-Stopped.is is)
