use Rattle.std.proofs.Common.{inr, subst}
use Rattle.answer_model.specs.Answer.{Answer}
use Rattle.answer_model.specs.Endings.{looked_for, EndsWith}
use Rattle.asked_run.proofs.Leaving.{leaves_started}
use Rattle.asked_run.proofs.Started.{begins_asked, same_answer, visits_started}
use Rattle.asked_run.proofs.run.run_to_end.Goals as goal

pub returns : goal.returns
returns g c =
    let a = c.args.asked in
    let r = g.C.Cycles.standing c.args.run in
    let old = g.R.Room.outside c.args.room.now in
    let new = g.R.Room.outside c.run_and_tell-status.new.room in
    let before = c.args.steps.now in
    let after = c.run_and_tell-status.new.steps in
    let result = c.run_and_tell-status.result in
    let may = c.requires.may_run in
    let e = c.run_and_tell-status.ensures in
    record {
      ends = λ s at_start. subst (λ (y : Answer). EndsWith y (looked_for s.inputs) old new result) (same_answer a c.args.drawn r s may at_start) (e.ends s.events s.from s.inputs (begins_asked a c.args.drawn r s may at_start));
      known = e.known;
      write_fault = e.write_fault;
      faults = e.faults;
      visits = λ s at_start. visits_started a c.args.drawn r s g.C.Cycles.is_counted before after may at_start c.requires.counted e.visits;
      leaves = λ s at_start. inr (e.known, leaves_started a c.args.drawn r s old new g.C.Cycles.is_counted before after result may at_start c.requires.counted (e.leaves s.events s.from (begins_asked a c.args.drawn r s may at_start)));
    }
