use Rattle.std.proofs.Common.{◌≡◌, map, Some, None, [], Result, sym, subst}
use Rattle.std.specs.String.{string_bytes}
use Rattle.std.proofs.lemmas.Option.{IfSome_then}
use Rattle.answer_model.specs.Asked.{asked_by_words}
use Rattle.answer_model.specs.ByWords.{usage}
use Rattle.answer_model.specs.Started.{Started, Stopped, bad_words, inputs_read}
use Rattle.answer_model.specs.ByWords.{started_by_words}
use Rattle.answer_model.specs.Cdpp.{answer_of}
use Rattle.answer_model.specs.Endings.{looked_for, EndsWith}
use Rattle.asked_words.specs.Shown.{asked_of}
use Rattle.cdpp_top.specs.Boxes.{classes_by}
use Rattle.asked_run.specs.Stages.{StandsAt}
use Rattle.asked_run.specs.Ways.{standing_in}
use Rattle.answer_model.proofs.Causing.{nothing_read}
use Rattle.cdpp_top.proofs.Causes.{refused_ends, unread_words_end}
use Rattle.run_inputs.proofs.Going.{if_some_all}
use Rattle.cdpp_top.proofs.Joined.{read_as, start_causes}
use Rattle.run_inputs.proofs.Stops.{stop_told, no_memory, no_line}
use Rattle.cdpp_top.proofs.Words.{asked_start, refused_start}
use Rattle.cdpp_top.proofs.read.read.Goals as goal

pub returns-in-Ok-Some-clause-reads : goal.returns-in-Ok-Some-clause-reads
returns-in-Ok-Some-clause-reads g c =
    let words = map string_bytes c.args.words.now in
    let classes = classes_by (λ m. g.M.AtomicModel.held m) c.args.boxes.items in
    let old = g.R.Room.outside c.args.room.now in
    let new = g.R.Room.outside c.read_inputs.new.room in
    let a = asked_of c.in-Ok-Some.asked in
    let is : Some a ≡ asked_by_words words = rw c.in-Ok-Some.field-0-is at c.in-Ok-Some.ensures.value in
    IfSome_then old.files c.read_inputs.ensures.reads
    (λ files reads. read_as (λ s. StandsAt s.asked (standing_in s.run)) (inputs_read a files classes) (started_by_words words files classes) old new c.read_inputs.result (asked_start words files classes a is) reads)

pub returns-in-Ok-Some-clause-causes : goal.returns-in-Ok-Some-clause-causes
returns-in-Ok-Some-clause-causes g c =
    let words = map string_bytes c.args.words.now in
    let old = g.R.Room.outside c.args.room.now in
    let new = g.R.Room.outside c.read_inputs.new.room in
    let a = asked_of c.in-Ok-Some.asked in
    let is : Some a ≡ asked_by_words words = rw c.in-Ok-Some.field-0-is at c.in-Ok-Some.ensures.value in
    start_causes words a old new c.read_inputs.result is c.read_inputs.ensures.causes

pub returns-in-Ok-None-clause-reads : goal.returns-in-Ok-None-clause-reads
returns-in-Ok-None-clause-reads g c =
    let words = map string_bytes c.args.words.now in
    let classes = classes_by (λ m. g.M.AtomicModel.held m) c.args.boxes.items in
    let old = g.R.Room.outside c.args.room.now in
    let is : None ≡ asked_by_words words = rw c.in-Ok-None.field-0-is at c.in-Ok-None.ensures.value in
    if_some_all old.files _ (λ files after s says.
    subst (λ (r : Result Started Stopped). EndsWith (answer_of r) (looked_for []) old after s) (sym (refused_start words files classes is)) (stop_told (bad_words usage) [] old after s says))

pub returns-in-Ok-None-clause-causes : goal.returns-in-Ok-None-clause-causes
returns-in-Ok-None-clause-causes g c =
    let words = map string_bytes c.args.words.now in
    let old = g.R.Room.outside c.args.room.now in
    let is : None ≡ asked_by_words words = rw c.in-Ok-None.field-0-is at c.in-Ok-None.ensures.value in
    λ after s says. refused_ends words old after s is says

pub returns-in-Err-clause-reads : goal.returns-in-Err-clause-reads
returns-in-Err-clause-reads g c =
    let words = map string_bytes c.args.words.now in
    let classes = classes_by (λ m. g.M.AtomicModel.held m) c.args.boxes.items in
    let old = g.R.Room.outside c.args.room.now in
    if_some_all old.files _ (λ files after s tells.
    let x = answer_of (started_by_words words files classes) in
    no_line x [] old old after s (no_memory x [] old) tells)

pub returns-in-Err-clause-causes : goal.returns-in-Err-clause-causes
returns-in-Err-clause-causes g c =
    λ after s tells. unread_words_end (map string_bytes c.args.words.now) (g.R.Room.outside c.args.room.now) after s tells

-- ---- only what is read has changed

pub returns-in-Ok-None-clause-only : goal.returns-in-Ok-None-clause-only
returns-in-Ok-None-clause-only g c = nothing_read (g.R.Room.outside c.args.room.now)

pub returns-in-Err-clause-only : goal.returns-in-Err-clause-only
returns-in-Err-clause-only g c = nothing_read (g.R.Room.outside c.args.room.now)
