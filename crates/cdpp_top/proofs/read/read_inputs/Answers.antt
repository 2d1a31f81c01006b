use Rattle.std.proofs.Common.{Ok, Err, List, [], refl, sym, ap, ◌∙◌, subst}
use Rattle.std.specs.Prelude.{IsTrue, not}
use Rattle.std.specs.List.{list_all}
use Rattle.std.proofs.lemmas.Option.{IfSome_then}
use Rattle.atomic_face.specs.StockView.{Stocked}
use Rattle.atomic_face.specs.declared.class.Class.{Class}
use Rattle.model_build.specs.Settled.{classes_of}
use Rattle.model_read.specs.declared.found.ReadModel.{ReadModel}
use Rattle.answer_model.specs.Started.{inputs_read}
use Rattle.answer_model.specs.Cdpp.{answer_of}
use Rattle.answer_model.proofs.Causing.{nothing_read}
use Rattle.asked_words.specs.Shown.{asked_of}
use Rattle.cdpp_top.specs.Boxes.{classes_by}
use Rattle.run_inputs.specs.Unread.{TellsUnread}
use Rattle.asked_run.specs.Stages.{StandsAt}
use Rattle.asked_run.specs.Ways.{standing_in}
use Rattle.cdpp_top.proofs.Boxes.{none_taken, classes_are}
use Rattle.run_inputs.proofs.Causing.{nothing_told, only_then}
use Rattle.cdpp_top.proofs.Causes.{model_told, causes_then}
use Rattle.run_inputs.proofs.Going.{if_some_all}
use Rattle.cdpp_top.proofs.Reading.{ReadsAsked, stops_at_model, goes_from_model}
use Rattle.run_inputs.proofs.Stops.{no_memory, no_line}
use Rattle.cdpp_top.proofs.read.read_inputs.Goals as goal

pub read_source-requires-clause-free : goal.read_source-requires-clause-free
read_source-requires-clause-free g c =
    subst (λ stock. IsTrue (list_all (λ (s : Stocked). not s.taken) stock)) (sym c.in-Ok.ensures) (none_taken (λ m. g.M.AtomicModel.held m) c.args.boxes.items)

-- ---- no memory for the stock

pub returns-in_default-clause-reads : goal.returns-in_default-clause-reads
returns-in_default-clause-reads g c =
    let x = c.args.asked in
    let classes = classes_by (λ m. g.M.AtomicModel.held m) c.args.boxes.items in
    let old = g.R.Room.outside c.args.room.now in
    if_some_all old.files _ (λ files after s tells.
    let y = answer_of (inputs_read (asked_of x) files classes) in
    no_line y [] old old after s (no_memory y [] old) tells)

pub returns-in_default-clause-causes : goal.returns-in_default-clause-causes
returns-in_default-clause-causes g c =
    let old = g.R.Room.outside c.args.room.now in
    λ after s tells. nothing_told old old after s (nothing_read old) refl tells

pub returns-in_default-clause-only : goal.returns-in_default-clause-only
returns-in_default-clause-only g c = nothing_read (g.R.Room.outside c.args.room.now)

-- ---- no model

pub returns-clause-reads : goal.returns-clause-reads
returns-clause-reads g c =
    let x = c.args.asked in
    let classes = classes_by (λ m. g.M.AtomicModel.held m) c.args.boxes.items in
    let old = g.R.Room.outside c.args.room.now in
    let mid = g.R.Room.outside c.read_source.new.room in
    let w = c.in-Err.refusal in
    let are = ap classes_of c.in-Ok.ensures ∙ classes_are (λ m. g.M.AtomicModel.held m) c.args.boxes.items in
    let reads = subst (λ (cs : List Class). ReadsAsked x cs c.read_source.new.stock (Err w) old mid) are c.in-Err.ensures.reads in
    IfSome_then old.files (stops_at_model x classes c.read_source.new.stock w old mid reads) (λ files stops after s tells.
    stops after s (subst (λ u. TellsUnread u mid after s) c.why_unread.ensures tells))

pub returns-clause-causes : goal.returns-clause-causes
returns-clause-causes g c =
    let old = g.R.Room.outside c.args.room.now in
    let mid = g.R.Room.outside c.read_source.new.room in
    let w = c.in-Err.refusal in
    let e = c.in-Err.ensures.reads in
    λ after s tells. model_told ReadModel w old mid after s e.counted e.only (subst (λ u. TellsUnread u mid after s) c.why_unread.ensures tells)

pub returns-clause-only : goal.returns-clause-only
returns-clause-only g c = c.in-Err.ensures.reads.only

-- ---- there is a model

pub read_run-requires : goal.read_run-requires
read_run-requires g c =
    let e = c.in-Ok-read_source.ensures in
    record {
      runs = record { bounds = c.requires.bounds; sound = e.reads.ready.sound; boxes = e.reads.ready.boxes };
      routes_are = e.reads.ready.routes_are;
      drawn = e.drawn;
      found = e.reads.group;
    }

pub returns-in-Ok-read_source-clause-reads : goal.returns-in-Ok-read_source-clause-reads
returns-in-Ok-read_source-clause-reads g c =
    let x = c.args.asked in
    let classes = classes_by (λ m. g.M.AtomicModel.held m) c.args.boxes.items in
    let old = g.R.Room.outside c.args.room.now in
    let mid = g.R.Room.outside c.read_source.new.room in
    let new = g.R.Room.outside c.read_run.new.room in
    let read = c.in-Ok-read_source.read in
    let stock = c.read_source.new.stock in
    let are = ap classes_of c.in-Ok.ensures ∙ classes_are (λ m. g.M.AtomicModel.held m) c.args.boxes.items in
    let reads = subst (λ (cs : List Class). ReadsAsked x cs stock (Ok read) old mid) are c.in-Ok-read_source.ensures.reads in
    goes_from_model (λ s. StandsAt s.asked (standing_in s.run)) x classes stock read old mid new reads c.read_run.result c.read_run.ensures.reads

pub returns-in-Ok-read_source-clause-causes : goal.returns-in-Ok-read_source-clause-causes
returns-in-Ok-read_source-clause-causes g c =
    let e = c.in-Ok-read_source.ensures.reads in
    causes_then (g.R.Room.outside c.args.room.now) (g.R.Room.outside c.read_source.new.room) (g.R.Room.outside c.read_run.new.room) c.read_run.result e.only e.misses e.counted.1 c.read_run.ensures.causes

pub returns-in-Ok-read_source-clause-only : goal.returns-in-Ok-read_source-clause-only
returns-in-Ok-read_source-clause-only g c =
    only_then (g.R.Room.outside c.args.room.now) (g.R.Room.outside c.read_source.new.room) (g.R.Room.outside c.read_run.new.room) c.in-Ok-read_source.ensures.reads.only c.read_run.ensures.only

pub returns-in-Ok-read_source-clause-may_run : goal.returns-in-Ok-read_source-clause-may_run
returns-in-Ok-read_source-clause-may_run g c = c.read_run.ensures.may_run

pub returns-in-Ok-read_source-clause-ordered : goal.returns-in-Ok-read_source-clause-ordered
returns-in-Ok-read_source-clause-ordered g c = c.read_run.ensures.ordered
