use Rattle.std.proofs.Common.{Option, refl, sym, ap, subst}
use Rattle.std.specs.Prelude.{IfSome, IfOk, Ok}
use Rattle.model_tree.specs.Tree.{Word}
use Rattle.asked_words.specs.Shown.{text_of_name}
use Rattle.answer_model.proofs.Causing.{nothing_read}
use Rattle.asked_run.specs.Stages.{ReadsState}
use Rattle.asked_run.specs.Starting.{IsResumed}
use Rattle.run_inputs.proofs.Causing.{misses_kept}
use Rattle.run_inputs.proofs.Going.{if_some_all}
use Rattle.asked_run.proofs.StateFiles.{no_state, not_resumed}
use Rattle.asked_run.proofs.state.read_flat_state.Goals as goal

pub returns-in-None-clause-reads : goal.returns-in-None-clause-reads
returns-in-None-clause-reads g c =
    let old = g.R.Room.outside c.args.room.now in
    let s = c.args.run in
    if_some_all old.files _ (λ files.
    subst (λ (o : Option Word). ReadsState o s c.args.end files old old (Ok s)) (sym (ap text_of_name c.in-None.is)) (no_state s c.args.end files old))

pub returns-in-None-clause-causes : goal.returns-in-None-clause-causes
returns-in-None-clause-causes g c = (misses_kept (g.R.Room.outside c.args.room.now), refl)

pub returns-in-None-clause-only : goal.returns-in-None-clause-only
returns-in-None-clause-only g c = nothing_read (g.R.Room.outside c.args.room.now)

pub returns-in-None-clause-goes_on : goal.returns-in-None-clause-goes_on
returns-in-None-clause-goes_on g c =
    subst (λ (o : Option Word). IsResumed o c.args.run c.args.end c.args.run) (sym (ap text_of_name c.in-None.is)) (not_resumed c.args.run c.args.end)

pub returns-in-Some-clause-reads : goal.returns-in-Some-clause-reads
returns-in-Some-clause-reads g c =
    let old = g.R.Room.outside c.args.room.now in
    let new = g.R.Room.outside c.read_state_file.new.room in
    subst (λ (o : Option Word). IfSome old.files (λ files. ReadsState o c.args.run c.args.end files old new c.read_state_file.result)) (sym (ap text_of_name c.in-Some.is)) c.read_state_file.ensures.reads

pub returns-in-Some-clause-goes_on : goal.returns-in-Some-clause-goes_on
returns-in-Some-clause-goes_on g c =
    subst (λ (o : Option Word). IfOk c.read_state_file.result (IsResumed o c.args.run c.args.end)) (sym (ap text_of_name c.in-Some.is)) c.read_state_file.ensures.goes_on
