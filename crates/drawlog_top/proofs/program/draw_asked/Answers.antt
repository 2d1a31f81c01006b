use Rattle.std.proofs.Common.{Some, None, [], ◌∷◌, refl, sym, ◌∙◌, ap, subst, arith}
use Rattle.std.proofs.lemmas.Option.{IfSome_then}
use Rattle.answer_model.specs.Answer.{Answer, only_complains}
use Rattle.answer_model.specs.Drawlog.{drawn_answer, log_refused}
use Rattle.answer_model.specs.declared.status.Status.TheVariants.{Missing, NoMemory, LogRefused}
use Rattle.answer_model.specs.Status.{of_log}
use Rattle.answer_model.specs.Endings.{looked_for, EndsWith}
use Rattle.answer_model.proofs.Causing.{later_ends, memory_ends, said_ends, unread_ends}
use Rattle.answer_model.proofs.FaultLemmas.{clean_read}
use Rattle.answer_model.proofs.Stages.{then_ends, was_tried, read_failed, read_and_said, read_unread}
use Rattle.asked_words.specs.Shown.{asked_drawing_of}
use Rattle.drawlog_top.specs.Ends.{answer_to_file}
use Rattle.drawlog_top.proofs.DrawnAnswers.{if_some_all, drawn_inputs, file_inputs, long_refused, drawing_ends}
use Rattle.drawlog_top.proofs.program.draw_asked.Goals as goal

pub returns-in-Ok-clause-ends : goal.returns-in-Ok-clause-ends
returns-in-Ok-clause-ends g c =
    let a = asked_drawing_of c.args.asked.now in
    let inputs = a.log ∷ [] in
    let old = g.R.Room.outside c.args.room.now in
    let mid = g.R.Room.outside c.read_whole.new.room in
    let new = g.R.Room.outside c.draw.new.room in
    let given = c.draw.result in
    let e = c.in-Ok.ensures in
    let x = drawn_answer a c.deref.result.now inputs in
    IfSome_then old.files e.bytes (λ files f.
    subst (λ (o : Answer). EndsWith o (looked_for []) old new given) (sym (ap (answer_to_file a) (f.0 ∙ ap Some (sym c.deref.ensures.value))))
    (then_ends x (looked_for []) (looked_for inputs) old mid new given (was_tried x [] old mid a.log ([], drawn_inputs a c.deref.result.now inputs) e.tried e.only e.faults) c.draw.ensures.ends))

pub returns-in-Ok-clause-causes : goal.returns-in-Ok-clause-causes
returns-in-Ok-clause-causes g c =
    let e = c.in-Ok.ensures in
    let mid = g.R.Room.outside c.read_whole.new.room in
    let new = g.R.Room.outside c.draw.new.room in
    later_ends of_log (g.R.Room.outside c.args.room.now) mid new c.draw.result e.only e.misses e.counts_faults (drawing_ends mid new c.draw.result c.draw.ensures.causes)

pub returns-in-Err-Missing-clause-ends : goal.returns-in-Err-Missing-clause-ends
returns-in-Err-Missing-clause-ends g c =
    let a = asked_drawing_of c.args.asked.now in
    let old = g.R.Room.outside c.args.room.now in
    let mid = g.R.Room.outside c.read_whole.new.room in
    let new = g.R.Room.outside c.complain_named.new.room in
    let given = c.complain_named.result in
    let e = rw c.in-Err-Missing.field-0-is at c.in-Err-Missing.ensures in
    IfSome_then old.files e.bytes (λ files f.
    subst (λ (o : Answer). EndsWith o (looked_for []) old new given) (sym (ap (answer_to_file a) f))
    (read_and_said (answer_to_file a None) [] old mid new a.log given ([], refl) refl refl e.tried e.only e.faults c.complain_named.ensures))

pub returns-in-Err-Missing-clause-causes : goal.returns-in-Err-Missing-clause-causes
returns-in-Err-Missing-clause-causes g c =
    let e = rw c.in-Err-Missing.field-0-is at c.in-Err-Missing.ensures in
    said_ends of_log _ Missing (g.R.Room.outside c.args.room.now) (g.R.Room.outside c.read_whole.new.room) (g.R.Room.outside c.complain_named.new.room) c.complain_named.result refl refl (e.missing refl) e.only e.counts_faults c.complain_named.ensures

pub returns-in-Err-ReadFault-clause-ends : goal.returns-in-Err-ReadFault-clause-ends
returns-in-Err-ReadFault-clause-ends g c =
    let a = asked_drawing_of c.args.asked.now in
    let old = g.R.Room.outside c.args.room.now in
    let mid = g.R.Room.outside c.read_whole.new.room in
    let new = g.R.Room.outside c.complain_named-in-Err-ReadFault.new.room in
    let given = c.complain_named-in-Err-ReadFault.result in
    let e = rw c.in-Err-ReadFault.field-0-is at c.in-Err-ReadFault.ensures in
    if_some_all old.files (λ files. EndsWith (answer_to_file a (files a.log)) (looked_for []) old new given) (λ files.
    read_failed (answer_to_file a (files a.log)) [] old mid new a.log given ([], file_inputs a (files a.log)) e.tried e.only e.faults (e.fault refl) c.complain_named-in-Err-ReadFault.ensures)

pub returns-in-Err-ReadFault-clause-causes : goal.returns-in-Err-ReadFault-clause-causes
returns-in-Err-ReadFault-clause-causes g c =
    let e = rw c.in-Err-ReadFault.field-0-is at c.in-Err-ReadFault.ensures in
    unread_ends of_log (asked_drawing_of c.args.asked.now).log (g.R.Room.outside c.args.room.now) (g.R.Room.outside c.read_whole.new.room) (g.R.Room.outside c.complain_named-in-Err-ReadFault.new.room) c.complain_named-in-Err-ReadFault.result refl refl (e.fault refl) e.only c.complain_named-in-Err-ReadFault.ensures

pub returns-in-Err-TooLong-clause-ends : goal.returns-in-Err-TooLong-clause-ends
returns-in-Err-TooLong-clause-ends g c =
    let a = asked_drawing_of c.args.asked.now in
    let inputs = a.log ∷ [] in
    let old = g.R.Room.outside c.args.room.now in
    let mid = g.R.Room.outside c.read_whole.new.room in
    let new = g.R.Room.outside c.refuse.new.room in
    let given = c.refuse.result in
    let e = rw c.in-Err-TooLong.field-0-is at c.in-Err-TooLong.ensures in
    IfSome_then old.files e.bytes (λ files f.
    subst (λ (o : Answer). EndsWith o (looked_for []) old new given) (sym (ap (answer_to_file a) f.1 ∙ long_refused a f.0 inputs (omega (arith, f.2, f.3))))
    (read_and_said (only_complains LogRefused (log_refused 0) inputs) [] old mid new a.log given ([], refl) refl refl e.tried e.only e.faults c.refuse.ensures))

pub returns-in-Err-TooLong-clause-causes : goal.returns-in-Err-TooLong-clause-causes
returns-in-Err-TooLong-clause-causes g c =
    let e = rw c.in-Err-TooLong.field-0-is at c.in-Err-TooLong.ensures in
    said_ends of_log _ LogRefused (g.R.Room.outside c.args.room.now) (g.R.Room.outside c.read_whole.new.room) (g.R.Room.outside c.refuse.new.room) c.refuse.result refl refl tt e.only e.counts_faults c.refuse.ensures

pub returns-in-Err-Memory-clause-ends : goal.returns-in-Err-Memory-clause-ends
returns-in-Err-Memory-clause-ends g c =
    let a = asked_drawing_of c.args.asked.now in
    let old = g.R.Room.outside c.args.room.now in
    let mid = g.R.Room.outside c.read_whole.new.room in
    let e = rw c.in-Err-Memory.field-0-is at c.in-Err-Memory.ensures in
    if_some_all old.files (λ files. EndsWith (answer_to_file a (files a.log)) (looked_for []) old mid NoMemory) (λ files.
    read_unread (answer_to_file a (files a.log)) [] old mid a.log ([], file_inputs a (files a.log)) e.tried e.only e.faults)

pub returns-in-Err-Memory-clause-causes : goal.returns-in-Err-Memory-clause-causes
returns-in-Err-Memory-clause-causes g c =
    let e = rw c.in-Err-Memory.field-0-is at c.in-Err-Memory.ensures in
    let old = g.R.Room.outside c.args.room.now in
    let mid = g.R.Room.outside c.read_whole.new.room in
    memory_ends of_log old mid refl (clean_read old mid e.only e.counts_faults)
