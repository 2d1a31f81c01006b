use Rattle.std.proofs.Common.{map, refl, ◌∙◌, arith}
use Rattle.std.specs.String.{string_bytes}
use Rattle.std.proofs.lemmas.Option.{IfSome_then}
use Rattle.answer_model.specs.ByWords.{started_by_words}
use Rattle.answer_model.specs.Cdpp.{answer_of}
use Rattle.answer_model.specs.Visits.{visits_for}
use Rattle.answer_model.proofs.Stages.{at_start}
use Rattle.answer_model.proofs.Causing.{run_ends}
use Rattle.cdpp_top.specs.Boxes.{classes_by}
use Rattle.asked_run.specs.Stages.{StandsAt}
use Rattle.asked_run.specs.Ways.{standing_in}
use Rattle.run_inputs.proofs.Going.{if_some_all}
use Rattle.cdpp_top.proofs.Joined.{read_then, read_ends, visited}
use Rattle.asked_run.proofs.Leaving.{of_unrun, tells_made, tells_complaint, leaves_of_start}
use Rattle.cdpp_top.proofs.program.cdpp.Goals as goal

-- ---- it was read, and run

pub returns-in-Ok-clause-ends : goal.returns-in-Ok-clause-ends
returns-in-Ok-clause-ends g c =
    let words = map string_bytes c.args.words.now in
    let classes = classes_by (λ m. g.M.AtomicModel.held m) c.args.boxes.items in
    let old = g.R.Room.outside c.args.room.now in
    let mid = g.R.Room.outside c.read.new.room in
    let new = g.R.Room.outside c.run.new.room in
    IfSome_then old.files c.in-Ok.ensures.reads
    (λ files reads. read_then (λ s. StandsAt s.asked (standing_in s.run)) c.in-Ok.start (started_by_words words files classes) old mid new c.run.result reads c.run.ensures.ends)

pub returns-in-Ok-clause-causes : goal.returns-in-Ok-clause-causes
returns-in-Ok-clause-causes g c =
    (read_ends (map string_bytes c.args.words.now) c.in-Ok.start (g.R.Room.outside c.args.room.now) (g.R.Room.outside c.read.new.room) (g.R.Room.outside c.run.new.room) c.run.result c.in-Ok.ensures.causes c.in-Ok.ensures.only
    (run_ends _ _ c.run.result c.run.ensures.known c.run.ensures.write_fault c.run.ensures.faults)).causes

pub returns-in-Ok-clause-nothing : goal.returns-in-Ok-clause-nothing
returns-in-Ok-clause-nothing g c =
    (read_ends (map string_bytes c.args.words.now) c.in-Ok.start (g.R.Room.outside c.args.room.now) (g.R.Room.outside c.read.new.room) (g.R.Room.outside c.run.new.room) c.run.result c.in-Ok.ensures.causes c.in-Ok.ensures.only
    (run_ends _ _ c.run.result c.run.ensures.known c.run.ensures.write_fault c.run.ensures.faults)).nothing

pub returns-in-Ok-clause-faults : goal.returns-in-Ok-clause-faults
returns-in-Ok-clause-faults g c =
    (read_ends (map string_bytes c.args.words.now) c.in-Ok.start (g.R.Room.outside c.args.room.now) (g.R.Room.outside c.read.new.room) (g.R.Room.outside c.run.new.room) c.run.result c.in-Ok.ensures.causes c.in-Ok.ensures.only
    (run_ends _ _ c.run.result c.run.ensures.known c.run.ensures.write_fault c.run.ensures.faults)).faults

pub returns-in-Ok-clause-visits : goal.returns-in-Ok-clause-visits
returns-in-Ok-clause-visits g c =
    let words = map string_bytes c.args.words.now in
    let classes = classes_by (λ m. g.M.AtomicModel.held m) c.args.boxes.items in
    IfSome_then (g.R.Room.outside c.args.room.now).files c.in-Ok.ensures.reads
    (λ files reads. visited reads.0 (started_by_words words files classes) c.run.new.steps c.args.steps.now reads.1 (c.run.ensures.visits reads.0 reads.2))

pub returns-in-Ok-clause-leaves : goal.returns-in-Ok-clause-leaves
returns-in-Ok-clause-leaves g c =
    let words = map string_bytes c.args.words.now in
    let classes = classes_by (λ m. g.M.AtomicModel.held m) c.args.boxes.items in
    let old = g.R.Room.outside c.args.room.now in
    let mid = g.R.Room.outside c.read.new.room in
    let new = g.R.Room.outside c.run.new.room in
    IfSome_then old.files c.in-Ok.ensures.reads
    (λ files reads. leaves_of_start reads.0 (started_by_words words files classes) old mid new c.args.steps.now c.run.new.steps c.run.result reads.1 c.in-Ok.ensures.only (c.run.ensures.leaves reads.0 reads.2))

-- ---- it was not read, which a line tells

pub returns-in-Err-clause-ends : goal.returns-in-Err-clause-ends
returns-in-Err-clause-ends g c =
    let words = map string_bytes c.args.words.now in
    let classes = classes_by (λ m. g.M.AtomicModel.held m) c.args.boxes.items in
    let old = g.R.Room.outside c.args.room.now in
    let new = g.R.Room.outside c.tell_unread.new.room in
    IfSome_then old.files c.in-Err.ensures.reads
    (λ files reads. at_start (answer_of (started_by_words words files classes)) old new c.tell_unread.result (reads new c.tell_unread.result c.tell_unread.ensures))

pub returns-in-Err-clause-causes : goal.returns-in-Err-clause-causes
returns-in-Err-clause-causes g c = (c.in-Err.ensures.causes (g.R.Room.outside c.tell_unread.new.room) c.tell_unread.result c.tell_unread.ensures).causes

pub returns-in-Err-clause-nothing : goal.returns-in-Err-clause-nothing
returns-in-Err-clause-nothing g c = (c.in-Err.ensures.causes (g.R.Room.outside c.tell_unread.new.room) c.tell_unread.result c.tell_unread.ensures).nothing

pub returns-in-Err-clause-faults : goal.returns-in-Err-clause-faults
returns-in-Err-clause-faults g c = (c.in-Err.ensures.causes (g.R.Room.outside c.tell_unread.new.room) c.tell_unread.result c.tell_unread.ensures).faults

pub returns-in-Err-clause-visits : goal.returns-in-Err-clause-visits
returns-in-Err-clause-visits g c =
    let words = map string_bytes c.args.words.now in
    let classes = classes_by (λ m. g.M.AtomicModel.held m) c.args.boxes.items in
    if_some_all (g.R.Room.outside c.args.room.now).files _ (λ files. if_some_all (visits_for words files classes) _ (λ most. omega arith))

pub returns-in-Err-clause-leaves : goal.returns-in-Err-clause-leaves
returns-in-Err-clause-leaves g c =
    let words = map string_bytes c.args.words.now in
    let classes = classes_by (λ m. g.M.AtomicModel.held m) c.args.boxes.items in
    let old = g.R.Room.outside c.args.room.now in
    let mid = g.R.Room.outside c.read.new.room in
    let new = g.R.Room.outside c.tell_unread.new.room in
    let told = tells_made c.in-Err.why mid new c.tell_unread.result c.tell_unread.ensures in
    let complaint = tells_complaint c.in-Err.why old mid new c.tell_unread.result c.in-Err.ensures.only.complain_faults c.tell_unread.ensures in
    if_some_all old.files _ (λ files.
    of_unrun (started_by_words words files classes) old new c.args.steps.now c.args.steps.now c.tell_unread.result (record { made = told ∙ c.in-Err.ensures.only.made; visits = refl; complaint = complaint }))
