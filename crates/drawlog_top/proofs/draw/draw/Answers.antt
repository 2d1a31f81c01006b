use Rattle.std.proofs.Common.{[], ◌∷◌, refl, sym, subst}
use Rattle.answer_model.specs.Answer.{Answer, only_complains, only_shows}
use Rattle.answer_model.specs.Drawlog.{drawn_answer, log_refused}
use Rattle.answer_model.specs.declared.status.Status.TheVariants.{Done, LogRefused}
use Rattle.answer_model.specs.Status.{of_drawing}
use Rattle.answer_model.specs.Endings.{ShowsEnd, looked_for, EndsWith}
use Rattle.answer_model.proofs.Outcomes.{none_begun}
use Rattle.answer_model.proofs.Endings.{endings_follow}
use Rattle.answer_model.proofs.FaultLemmas.{nothing_done}
use Rattle.answer_model.proofs.Causing.{memory_ends, nothing_read, said_ends}
use Rattle.asked_words.specs.Shown.{asked_drawing_of}
use Rattle.drawlog_top.proofs.DrawnAnswers.{drawn_shows, drawn_refuses, shown_ends}
use Rattle.drawlog_top.proofs.draw.draw.Goals as goal

pub returns-in-Ok-clause-ends : goal.returns-in-Ok-clause-ends
returns-in-Ok-clause-ends g c =
    let a = asked_drawing_of c.args.asked.now in
    let inputs = a.log ∷ [] in
    let old = g.R.Room.outside c.args.room.now in
    let new = g.R.Room.outside c.show.new.room in
    let given = c.show.result in
    let frames = c.in-Ok.frames.items in
    let is = drawn_shows a c.args.log.now frames inputs c.requires.short c.in-Ok.ensures in
    subst (λ (o : Answer). EndsWith o (looked_for inputs) old new given) (sym is)
    (endings_follow.ended (only_shows frames inputs) (looked_for inputs) old new frames given refl refl refl (subst (λ bytes. ShowsEnd bytes Done old new given) c.deref.ensures.value c.show.ensures))

pub returns-in-Ok-clause-causes : goal.returns-in-Ok-clause-causes
returns-in-Ok-clause-causes g c = shown_ends _ _ _ c.show.result c.show.ensures

pub returns-in-Err-LogRefused-clause-ends : goal.returns-in-Err-LogRefused-clause-ends
returns-in-Err-LogRefused-clause-ends g c =
    let a = asked_drawing_of c.args.asked.now in
    let inputs = a.log ∷ [] in
    let old = g.R.Room.outside c.args.room.now in
    let new = g.R.Room.outside c.refuse.new.room in
    let given = c.refuse.result in
    let line = c.in-Err-LogRefused.line in
    let e = rw c.in-Err-LogRefused.field-0-is at c.in-Err-LogRefused.ensures in
    let is = drawn_refuses a c.args.log.now line inputs c.requires.short e in
    subst (λ (o : Answer). EndsWith o (looked_for inputs) old new given) (sym is)
    (endings_follow.said (only_complains LogRefused (log_refused line) inputs) (looked_for inputs) old new given refl refl c.refuse.ensures)

pub returns-in-Err-LogRefused-clause-causes : goal.returns-in-Err-LogRefused-clause-causes
returns-in-Err-LogRefused-clause-causes g c =
    let old = g.R.Room.outside c.args.room.now in
    said_ends of_drawing _ LogRefused old old _ c.refuse.result refl refl tt (nothing_read old) refl c.refuse.ensures

pub returns-in-Err-Memory-clause-ends : goal.returns-in-Err-Memory-clause-ends
returns-in-Err-Memory-clause-ends g c =
    let a = asked_drawing_of c.args.asked.now in
    let inputs = a.log ∷ [] in
    let x = drawn_answer a c.args.log.now inputs in
    endings_follow.memory x (looked_for inputs) (g.R.Room.outside c.args.room.now) (none_begun x (looked_for inputs) refl refl)

pub returns-in-Err-Memory-clause-causes : goal.returns-in-Err-Memory-clause-causes
returns-in-Err-Memory-clause-causes g c = memory_ends of_drawing _ _ refl (nothing_done (g.R.Room.outside c.args.room.now))
