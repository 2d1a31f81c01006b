use Rattle.std.proofs.Common.{◌≡◌, Option, None, refl, sym, subst}
use Rattle.std.specs.Prelude.{IfSome, Ok, Err}
use Rattle.model_tree.specs.Tree.{Word}
use Rattle.run_leaves.specs.Standing.{Standing}
use Rattle.tree_serve.specs.OrderedRun.{OrderedRun}
use Rattle.asked_words.specs.Shown.{text_of_name}
use Rattle.answer_model.proofs.Causing.{nothing_read}
use Rattle.asked_run.specs.declared.way.Way.{Way}
use Rattle.asked_run.specs.Stages.{ReadsState}
use Rattle.asked_run.specs.Starting.{IsResumed, MayGoOn}
use Rattle.asked_run.specs.Ways.{standing_in, marking_in}
use Rattle.run_inputs.proofs.Causing.{misses_kept}
use Rattle.run_inputs.proofs.Going.{if_some_all}
use Rattle.asked_run.proofs.StateFiles.{no_state, not_resumed}
use Rattle.asked_run.proofs.state.read_state.Goals as goal

-- ---- a flat run

pub read_flat_state-requires : goal.read_flat_state-requires
read_flat_state-requires g c = subst (λ (w : Way Standing OrderedRun). MayGoOn (standing_in w)) c.in-Flat.is c.requires.may_go_on

pub returns-in-Ok : goal.returns-in-Ok
returns-in-Ok g c =
    let old = g.R.Room.outside c.args.room.now in
    let new = g.R.Room.outside c.read_flat_state.new.room in
    record {
      reads = subst (λ (w : Way Standing OrderedRun). IfSome old.files (λ files. ReadsState (text_of_name c.args.name) (standing_in w) c.args.end files old new (Ok c.in-Ok.loaded))) (sym c.in-Flat.is) c.in-Ok.ensures.reads;
      causes = c.in-Ok.ensures.causes;
      only = c.in-Ok.ensures.only;
      goes_on = subst (λ (w : Way Standing OrderedRun). IsResumed (text_of_name c.args.name) (standing_in w) c.args.end c.in-Ok.loaded) (sym c.in-Flat.is) c.in-Ok.ensures.goes_on;
      marked = subst (λ (w : Way Standing OrderedRun). None ≡ marking_in w) (sym c.in-Flat.is) refl;
    }

pub returns-in-Err : goal.returns-in-Err
returns-in-Err g c =
    let old = g.R.Room.outside c.args.room.now in
    let new = g.R.Room.outside c.read_flat_state.new.room in
    record {
      reads = subst (λ (w : Way Standing OrderedRun). IfSome old.files (λ files. ReadsState (text_of_name c.args.name) (standing_in w) c.args.end files old new (Err c.in-Err.why))) (sym c.in-Flat.is) c.in-Err.ensures.reads;
      causes = c.in-Err.ensures.causes;
      only = c.in-Err.ensures.only;
      goes_on = tt;
      marked = tt;
    }

-- ---- a run that is served in an order

pub returns-in-Served : goal.returns-in-Served
returns-in-Served g c =
    let old = g.R.Room.outside c.args.room.now in
    let s = standing_in c.args.run in
    let none : text_of_name c.args.name ≡ None = subst (λ (w : Way Standing OrderedRun). IfSome (marking_in w) (λ m. text_of_name c.args.name ≡ None)) c.in-Served.is c.requires.unserved in
    record {
      reads = if_some_all old.files _ (λ files.
          subst (λ (w : Way Standing OrderedRun). ReadsState (text_of_name c.args.name) s c.args.end files old old (Ok (standing_in w))) c.in-Served.is
          (subst (λ (o : Option Word). ReadsState o s c.args.end files old old (Ok s)) (sym none) (no_state s c.args.end files old)));
      causes = (misses_kept (g.R.Room.outside c.args.room.now), refl);
      only = nothing_read (g.R.Room.outside c.args.room.now);
      goes_on = subst (λ (w : Way Standing OrderedRun). IsResumed (text_of_name c.args.name) s c.args.end (standing_in w)) c.in-Served.is
          (subst (λ (o : Option Word). IsResumed o s c.args.end s) (sym none) (not_resumed s c.args.end));
      marked = subst (λ (w : Way Standing OrderedRun). marking_in w ≡ marking_in c.args.run) c.in-Served.is refl;
    }
