use Rattle.std.proofs.Common.{List, Option, None, refl, sym, ap, subst}
use Rattle.std.specs.Prelude.{IfSome, Ok}
use Rattle.model_tree.specs.Tree.{Word}
use Rattle.run_model.specs.Run.{Event}
use Rattle.asked_words.specs.Shown.{text_of_name}
use Rattle.run_inputs.specs.Read.{ReadsEvents}
use Rattle.answer_model.proofs.Causing.{nothing_read}
use Rattle.run_inputs.proofs.Causing.{misses_kept}
use Rattle.run_inputs.proofs.EventFiles.{no_events}
use Rattle.run_inputs.proofs.Going.{if_some_all}
use Rattle.run_inputs.proofs.events.read_events.Goals as goal

pub returns-in-None-clause-reads : goal.returns-in-None-clause-reads
returns-in-None-clause-reads g c =
    let old = g.R.Room.outside c.args.room.now in
    if_some_all old.files _ (λ files.
    subst (λ (o : Option Word). ReadsEvents o c.args.ports.now files old old (Ok c.none.result)) (sym (ap text_of_name c.in-None.is))
    (subst (λ (events : List Event). ReadsEvents None c.args.ports.now files old old (Ok events)) (sym c.none.ensures) (no_events c.args.ports.now files old)))

pub returns-in-None-clause-causes : goal.returns-in-None-clause-causes
returns-in-None-clause-causes g c = (misses_kept (g.R.Room.outside c.args.room.now), refl)

pub returns-in-None-clause-only : goal.returns-in-None-clause-only
returns-in-None-clause-only g c = nothing_read (g.R.Room.outside c.args.room.now)

pub returns-in-Some-clause-reads : goal.returns-in-Some-clause-reads
returns-in-Some-clause-reads g c =
    let old = g.R.Room.outside c.args.room.now in
    let new = g.R.Room.outside c.read_file.new.room in
    subst (λ (o : Option Word). IfSome old.files (λ files. ReadsEvents o c.args.ports.now files old new c.read_file.result)) (sym (ap text_of_name c.in-Some.is)) c.read_file.ensures.reads
