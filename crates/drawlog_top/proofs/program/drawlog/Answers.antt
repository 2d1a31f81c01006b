use Rattle.std.proofs.Common.{◌≡◌, map, Some, None, [], refl, sym, ◌∙◌, ap, subst, arith}
use Rattle.std.specs.String.{string_bytes}
use Rattle.std.proofs.lemmas.Option.{IfSome_then}
use Rattle.answer_model.specs.Answer.{Answer, if_asked}
use Rattle.answer_model.specs.AskedDrawing.{asked_drawing, drawing_usage}
use Rattle.answer_model.specs.Drawlog.{drawing_answer}
use Rattle.answer_model.specs.Outcome.{Outcome}
use Rattle.answer_model.specs.declared.status.Status.TheVariants.{Usage, NoMemory}
use Rattle.answer_model.specs.Status.{status_row, of_words, of_drawlog}
use Rattle.answer_model.specs.Endings.{looked_for}
use Rattle.answer_model.proofs.Outcomes.{none_begun}
use Rattle.answer_model.proofs.Endings.{endings_follow}
use Rattle.answer_model.proofs.Said.{said_among}
use Rattle.answer_model.proofs.Causing.{cause_for, said_caused, nothing_read, nothing_written}
use Rattle.answer_model.proofs.FaultLemmas.{nothing_done, clean_answers, said_answers}
use Rattle.answer_model.proofs.Stages.{at_start}
use Rattle.asked_words.specs.Shown.{asked_drawing_of}
use Rattle.drawlog_top.specs.Ends.{answer_to_file}
use Rattle.drawlog_top.proofs.DrawnAnswers.{if_some_all, log_known}
use Rattle.drawlog_top.proofs.program.drawlog.Goals as goal

pub draw_asked-requires : goal.draw_asked-requires
draw_asked-requires g c =
    let can = rw c.in-Ok-Some.field-0-is at c.in-Ok-Some.ensures.bounds in
    record { plane_inside = can.plane_inside; some_width = can.some; narrow = can.narrow; short = can.short }

pub returns-in-Ok-Some-clause-ends : goal.returns-in-Ok-Some-clause-ends
unfolding drawing_answer
returns-in-Ok-Some-clause-ends g c =
    let words = map string_bytes c.args.words.now in
    let old = g.R.Room.outside c.args.room.now in
    let new = g.R.Room.outside c.draw_asked.new.room in
    let given = c.draw_asked.result in
    let a = asked_drawing_of c.in-Ok-Some.asked in
    let is : Some a ≡ asked_drawing words = rw c.in-Ok-Some.field-0-is at c.in-Ok-Some.ensures.value in
    IfSome_then old.files c.draw_asked.ensures.ends
    (λ files f. subst (λ (o : Answer). Outcome o old new given) (ap (λ o. if_asked drawing_usage o (λ a. answer_to_file a (files a.log))) is) (at_start (answer_to_file a (files a.log)) old new given f))

pub returns-in-Ok-Some-clause-causes : goal.returns-in-Ok-Some-clause-causes
returns-in-Ok-Some-clause-causes g c =
    let words = map string_bytes c.args.words.now in
    let is : Some (asked_drawing_of c.in-Ok-Some.asked) ≡ asked_drawing words = rw c.in-Ok-Some.field-0-is at c.in-Ok-Some.ensures.value in
    let old = g.R.Room.outside c.args.room.now in
    let new = g.R.Room.outside c.draw_asked.new.room in
    let w = c.draw_asked.ensures.causes in
    record {
      known = log_known c.draw_asked.result w.known;
      cause = cause_for ⊥ (asked_drawing words ≡ None) old new (status_row c.draw_asked.result).cause (λ e. absurd e) w.cause;
      refused = λ none. let both = is ∙ none in let no : ⊥ = cc in absurd no;
    }

pub returns-in-Ok-Some-clause-nothing : goal.returns-in-Ok-Some-clause-nothing
returns-in-Ok-Some-clause-nothing g c = c.draw_asked.ensures.causes.nothing

pub returns-in-Ok-Some-clause-faults : goal.returns-in-Ok-Some-clause-faults
returns-in-Ok-Some-clause-faults g c = c.draw_asked.ensures.causes.faults

pub returns-in-Ok-None-clause-ends : goal.returns-in-Ok-None-clause-ends
unfolding drawing_answer
returns-in-Ok-None-clause-ends g c =
    let words = map string_bytes c.args.words.now in
    let old = g.R.Room.outside c.args.room.now in
    let new = g.R.Room.outside c.tell_usage.new.room in
    let given = c.tell_usage.result in
    let is : None ≡ asked_drawing words = rw c.in-Ok-None.field-0-is at c.in-Ok-None.ensures.value in
    if_some_all old.files (λ files. Outcome (drawing_answer words files) old new given) (λ files.
    let x = if_asked drawing_usage None (λ a. answer_to_file a (files a.log)) in
    subst (λ (o : Answer). Outcome o old new given) (ap (λ o. if_asked drawing_usage o (λ a. answer_to_file a (files a.log))) is)
    (at_start x old new given (endings_follow.said x (looked_for []) old new given refl refl c.tell_usage.ensures)))

pub returns-in-Ok-None-clause-causes : goal.returns-in-Ok-None-clause-causes
returns-in-Ok-None-clause-causes g c =
    let words = map string_bytes c.args.words.now in
    let old = g.R.Room.outside c.args.room.now in
    let new = g.R.Room.outside c.tell_usage.new.room in
    let is : None ≡ asked_drawing words = rw c.in-Ok-None.field-0-is at c.in-Ok-None.ensures.value in
    let says = c.tell_usage.ensures in
    record {
      known = said_among of_drawlog _ Usage old new c.tell_usage.result refl refl refl says;
      cause = said_caused (asked_drawing words ≡ None) _ Usage old old new c.tell_usage.result (omega arith) (sym is) says;
      refused = λ e. said_among of_words _ Usage old new c.tell_usage.result refl refl refl says;
    }

pub returns-in-Ok-None-clause-nothing : goal.returns-in-Ok-None-clause-nothing
returns-in-Ok-None-clause-nothing g c =
    let old = g.R.Room.outside c.args.room.now in
    λ e. nothing_written _ Usage old old (g.R.Room.outside c.tell_usage.new.room) c.tell_usage.result (nothing_read old) c.tell_usage.ensures

pub returns-in-Ok-None-clause-faults : goal.returns-in-Ok-None-clause-faults
returns-in-Ok-None-clause-faults g c =
    said_answers _ Usage (g.R.Room.outside c.args.room.now) (g.R.Room.outside c.tell_usage.new.room) c.tell_usage.result c.tell_usage.ensures

pub returns-in-Err-clause-ends : goal.returns-in-Err-clause-ends
returns-in-Err-clause-ends g c =
    let words = map string_bytes c.args.words.now in
    let old = g.R.Room.outside c.args.room.now in
    if_some_all old.files (λ files. Outcome (drawing_answer words files) old old NoMemory) (λ files.
    let x = drawing_answer words files in
    at_start x old old NoMemory (endings_follow.memory x (looked_for []) old (none_begun x (looked_for []) refl refl)))

pub returns-in-Err-clause-causes : goal.returns-in-Err-clause-causes
returns-in-Err-clause-causes g c = record { known = refl; cause = tt; refused = λ e. refl }

pub returns-in-Err-clause-nothing : goal.returns-in-Err-clause-nothing
returns-in-Err-clause-nothing g c = λ e. absurd cc

pub returns-in-Err-clause-faults : goal.returns-in-Err-clause-faults
returns-in-Err-clause-faults g c = let old = g.R.Room.outside c.args.room.now in clean_answers old old NoMemory (nothing_done old)
