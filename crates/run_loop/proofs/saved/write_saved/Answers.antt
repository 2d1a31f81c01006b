use Rattle.std.proofs.Common.{subst}
use Rattle.std.specs.Option.{is_some}
use Rattle.quantity.specs.Bytes.{Bytes}
use Rattle.run_leaves.specs.Standing.{tree_in}
use Rattle.run_loop.specs.declared.outputs.Output.TheVariants.{State}
use Rattle.run_loop.specs.AskedFiles.{names_of}
use Rattle.run_loop.specs.Order.{one_piece}
use Rattle.run_loop.specs.Written.{Writes}
use Rattle.run_loop.specs.declared.ending.Ending.{Ending}
use Rattle.run_loop.specs.Saving.{LeftIn, Saves}
use Rattle.run_loop.proofs.Saving.{saved_done, nothing_saved}
use Rattle.run_loop.proofs.saved.write_saved.Goals as goal

pub write_state-requires-clause-goes : goal.write_state-requires-clause-goes
write_state-requires-clause-goes g c =
    (subst (λ (x : Ending). LeftIn x (is_some c.args.asked.now.given.save) (g.C.Cycles.marking c.args.run.now) (g.C.Cycles.standing c.args.run.now)) c.in-Done.is c.requires.left).0

pub write_state-requires-clause-fits : goal.write_state-requires-clause-fits
write_state-requires-clause-fits g c =
    (subst (λ (x : Ending). LeftIn x (is_some c.args.asked.now.given.save) (g.C.Cycles.marking c.args.run.now) (g.C.Cycles.standing c.args.run.now)) c.in-Done.is c.requires.left).1

pub write_state-requires-clause-unserved : goal.write_state-requires-clause-unserved
write_state-requires-clause-unserved g c =
    (subst (λ (x : Ending). LeftIn x (is_some c.args.asked.now.given.save) (g.C.Cycles.marking c.args.run.now) (g.C.Cycles.standing c.args.run.now)) c.in-Done.is c.requires.left).2

pub returns-in-Done-clause-texts : goal.returns-in-Done-clause-texts
returns-in-Done-clause-texts g c = λ r saves.
    let s = g.C.Cycles.standing c.args.run.now in
    let done = subst (λ (x : Ending). Saves x r s) c.in-Done.is saves in
    subst (λ (text : Bytes). Writes (names_of c.args.asked.now) (one_piece State text) (g.R.Room.outside c.args.room.now) (g.R.Room.outside c.write_state.new.room) c.write_state.result)
    (saved_done c.args.asked.now.end (tree_in s) r s done) c.write_state.ensures.texts

pub returns-in-Stopped-clause-texts : goal.returns-in-Stopped-clause-texts
returns-in-Stopped-clause-texts g c = λ r saves.
    let s = g.C.Cycles.standing c.args.run.now in
    nothing_saved (names_of c.args.asked.now) c.args.asked.now.end (tree_in s) r s c.in-Stopped.field-0 (g.R.Room.outside c.args.room.now) (subst (λ (x : Ending). Saves x r s) c.in-Stopped.is saves)
