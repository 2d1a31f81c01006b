use Rattle.std.proofs.Common.{Err, sym, ap, subst}
use Rattle.model_text.specs.ModelOf.{model_in}
use Rattle.model_build.specs.Settled.{classes_of}
use Rattle.model_read.specs.Read.{drawing_of, Reads}
use Rattle.model_read.specs.Whole.{behind_limit}
use Rattle.model_read.proofs.Stopping.{phase_stops}
use Rattle.model_read.proofs.Tells.{reads_by}
use Rattle.model_read.proofs.UpToLimit.{passes}
use Rattle.model_read.proofs.read.read_sections.Goals as goal

pub returns-in-Ok : goal.returns-in-Ok
returns-in-Ok g c =
    let ss = c.args.sections.now in
    let classes = classes_of c.args.stock.now in
    let d = drawing_of c.args.frames in
    let stock = c.judge.new.stock in
    reads_by (behind_limit ss d) (λ files. model_in ss files classes d) d stock c.finish.result (g.R.Room.outside c.args.room.now) (g.R.Room.outside c.finish.new.room)
    (λ files. sym (passes c.first_phase_decides.ensures classes ss c.in-Ok.ensures.passed files d))
    (c.finish.ensures stock c.in-Ok.ensures.tree c.in-Ok.ensures.boxes)

pub returns-in-Err : goal.returns-in-Err
returns-in-Err g c =
    let ss = c.args.sections.now in
    let classes = classes_of c.args.stock.now in
    let d = drawing_of c.args.frames in
    let stock = c.judge.new.stock in
    let old = g.R.Room.outside c.args.room.now in
    subst (λ r. Reads (λ files. model_in ss files classes d) d stock (Err r) old old) (sym c.stop_refusal.ensures)
    (phase_stops c.first_phase_decides.ensures classes ss d stock old c.in-Err.stop (λ why e. c.in-Err.ensures.refused why (ap Err e)))
