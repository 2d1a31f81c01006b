use Rattle.std.proofs.Common.{◌≡◌, refl, sym, ◌∙◌, subst, arith, rules}
use Rattle.std.specs.Prelude.{Result, Ok, Err}
use Rattle.run_model.specs.Run.{done}
use Rattle.run_leaves.specs.Seated.{settings_at}
use Rattle.run_leaves.specs.declared.progress.Progress.TheVariants as progress
use Rattle.run_loop.specs.declared.outputs.Unwritten.{Unwritten}
use Rattle.run_loop.specs.declared.ending.Ending.{Ending}
use Rattle.run_loop.specs.declared.ending.Ending.TheVariants.{Done}
use Rattle.run_loop.specs.DoneIn.{DoneIn}
use Rattle.run_loop.specs.Left.{rest_of}
use Rattle.run_loop.specs.Leaves.{spent_between}
use Rattle.run_loop.specs.Ran.{asking_of, RunsTo}
use Rattle.run_loop.proofs.GoesOn.{stop_keeps, keeps-trans, keeps_same, goes_on}
use Rattle.run_loop.proofs.Marks.{marks_next, marks_done, stop_no_mark}
use Rattle.run_loop.proofs.Stands.{stands_first, stands_next, names_due, breaks_next, ends_by_verdict, not_late, stops_here, stop_no_end, done_in, costs_here, made_still}
use Rattle.run_loop.proofs.run.run_cycles.Goals as goal

pub cycles-init : goal.cycles-init
cycles-init g c = (
  stands_first c.args.asked.now c.args.most (g.C.Cycles.standing c.args.run.now) c.args.going.now (g.R.Room.outside c.args.room.now) g.C.Cycles.is_counted c.args.steps.now
      c.requires.goes c.requires.fit,
  refl,
)

pub returns-in-Err-clause-runs : goal.returns-in-Err-clause-runs
returns-in-Err-clause-runs g c =
    let s = g.C.Cycles.standing c.cycles.run in
    let m = g.C.Cycles.standing c.cycle.new.self in
    let was = c.cycles.invariant.0 in
    let step = goes_on s m (Err c.in-Err.stop) c.cycle.new.records was.goes c.in-Err.ensures.goes in
    stops_here c.args.asked.now c.args.most c.cycles.left (g.C.Cycles.standing c.args.run.now) s c.args.going.now c.cycles.going.drawn c.cycles.going.counted c.cycles.going.cycles (g.R.Room.outside c.args.room.now) (g.R.Room.outside c.cycles.room) (spent_between g.C.Cycles.is_counted c.args.steps.now c.cycles.steps) was
    m c.cycle.new.records c.in-Err.stop c.stopped_by.result (record c.cycles.going { records = c.cycle.new.records }) c.cycle.new.steps step c.stopped_by.ensures refl refl refl c.cycle.ensures.visits

pub returns-in-Err-clause-keeps : goal.returns-in-Err-clause-keeps
returns-in-Err-clause-keeps g c =
    let s = g.C.Cycles.standing c.cycles.run in
    let m = g.C.Cycles.standing c.cycle.new.self in
    let was = c.cycles.invariant.0 in
    let step = goes_on s m (Err c.in-Err.stop) c.cycle.new.records was.goes c.in-Err.ensures.goes in
    keeps-trans (g.C.Cycles.standing c.args.run.now) s m was.keeps (stop_keeps s m c.cycle.new.records c.in-Err.stop step)

pub returns-in-Err-clause-left : goal.returns-in-Err-clause-left
returns-in-Err-clause-left g c =
    stop_no_end c.in-Err.stop c.stopped_by.result _ _ c.stopped_by.ensures

pub returns-in-Err-clause-marked : goal.returns-in-Err-clause-marked
returns-in-Err-clause-marked g c =
    stop_no_mark c.in-Err.stop c.stopped_by.result c.args.most (g.C.Cycles.standing c.args.run.now) (g.C.Cycles.marking c.args.run.now) (g.C.Cycles.marking c.cycle.new.self) c.stopped_by.ensures

pub returns-in-Done-clause-runs : goal.returns-in-Done-clause-runs
returns-in-Done-clause-runs g c =
    let s = g.C.Cycles.standing c.cycles.run in
    let m = g.C.Cycles.standing c.cycle.new.self in
    let was = c.cycles.invariant.0 in
    let step = goes_on s m (Ok progress.Done) c.cycle.new.records was.goes (rw c.in-Done.is at c.in-Ok.ensures.goes) in
    ends_by_verdict c.args.asked.now c.args.most c.cycles.left (g.C.Cycles.standing c.args.run.now) s c.args.going.now c.cycles.going.drawn c.cycles.going.counted c.cycles.going.cycles (g.R.Room.outside c.args.room.now) (g.R.Room.outside c.cycles.room) (spent_between g.C.Cycles.is_counted c.args.steps.now c.cycles.steps) was
    done Done (record c.cycles.going { records = c.cycle.new.records }) c.cycle.new.steps step.0 refl refl refl refl c.cycle.ensures.visits

pub returns-in-Done-clause-keeps : goal.returns-in-Done-clause-keeps
returns-in-Done-clause-keeps g c =
    let s = g.C.Cycles.standing c.cycles.run in
    let m = g.C.Cycles.standing c.cycle.new.self in
    let was = c.cycles.invariant.0 in
    let step = goes_on s m (Ok progress.Done) c.cycle.new.records was.goes (rw c.in-Done.is at c.in-Ok.ensures.goes) in
    keeps_same (g.C.Cycles.standing c.args.run.now) s m was.keeps step.1

pub returns-in-Done-clause-left : goal.returns-in-Done-clause-left
returns-in-Done-clause-left g c =
    let s = g.C.Cycles.standing c.cycles.run in
    let m = g.C.Cycles.standing c.cycle.new.self in
    let was = c.cycles.invariant.0 in
    let step = goes_on s m (Ok progress.Done) c.cycle.new.records was.goes (rw c.in-Done.is at c.in-Ok.ensures.goes) in
    done_in c.args.asked.now c.args.most c.cycles.left (g.C.Cycles.standing c.args.run.now) s c.args.going.now c.cycles.going.drawn c.cycles.going.counted c.cycles.going.cycles (g.R.Room.outside c.args.room.now) (g.R.Room.outside c.cycles.room) (spent_between g.C.Cycles.is_counted c.args.steps.now c.cycles.steps) was m step.0 step.1

pub returns-in-Done-clause-marked : goal.returns-in-Done-clause-marked
returns-in-Done-clause-marked g c =
    let s = g.C.Cycles.standing c.cycles.run in
    let m = g.C.Cycles.standing c.cycle.new.self in
    let was = c.cycles.invariant.0 in
    let step = goes_on s m (Ok progress.Done) c.cycle.new.records was.goes (rw c.in-Done.is at c.in-Ok.ensures.goes) in
    marks_done c.cycles.left s (g.C.Cycles.marking c.cycles.run) (g.C.Cycles.marking c.cycle.new.self) was.goes step.0 (rw c.in-Done.is at c.in-Ok.ensures.marks) ∙ c.cycles.invariant.1

pub returns-then-left-eq0 : goal.returns-then-left-eq0
returns-then-left-eq0 g c =
    let s = g.C.Cycles.standing c.cycles.run in
    let m = g.C.Cycles.standing c.cycle.new.self in
    let was = c.cycles.invariant.0 in
    let step = goes_on s m (Ok (progress.Cycled c.in-Cycled.at)) c.cycle.new.records was.goes (rw c.in-Cycled.is at c.in-Ok.ensures.goes) in
    absurd (not_late c.args.asked.now c.args.most c.cycles.left (g.C.Cycles.standing c.args.run.now) s c.args.going.now c.cycles.going.drawn c.cycles.going.counted c.cycles.going.cycles (g.R.Room.outside c.args.room.now) (g.R.Room.outside c.cycles.room) (spent_between g.C.Cycles.is_counted c.args.steps.now c.cycles.steps) was m c.in-Cycled.at c.cycle.new.records (omega arith) step)

pub write_next-requires-clause-created : goal.write_next-requires-clause-created
write_next-requires-clause-created g c =
    let s = g.C.Cycles.standing c.cycles.run in
    let was = c.cycles.invariant.0 in
    made_still c.args.asked.now c.args.most c.cycles.left (g.C.Cycles.standing c.args.run.now) s c.args.going.now c.cycles.going.drawn c.cycles.going.counted c.cycles.going.cycles (g.R.Room.outside c.args.room.now) (g.R.Room.outside c.cycles.room) (spent_between g.C.Cycles.is_counted c.args.steps.now c.cycles.steps) was c.requires.created

pub write_next-requires-clause-leaves : goal.write_next-requires-clause-leaves
write_next-requires-clause-leaves g c =
    let s = g.C.Cycles.standing c.cycles.run in
    let m = g.C.Cycles.standing c.cycle.new.self in
    let was = c.cycles.invariant.0 in
    let step = goes_on s m (Ok (progress.Cycled c.in-Cycled.at)) c.cycle.new.records was.goes (rw c.in-Cycled.is at c.in-Ok.ensures.goes) in
    names_due c.args.asked.now c.args.most c.cycles.left (g.C.Cycles.standing c.args.run.now) s c.args.going.now c.cycles.going.drawn c.cycles.going.counted c.cycles.going.cycles (g.R.Room.outside c.args.room.now) (g.R.Room.outside c.cycles.room) (spent_between g.C.Cycles.is_counted c.args.steps.now c.cycles.steps) was
    m c.in-Cycled.at c.cycle.new.records c.model.result.now (omega arith) c.requires.values step c.model.ensures

pub write_next-requires-clause-few : goal.write_next-requires-clause-few
write_next-requires-clause-few g c =
    omega (arith, c.cycles.invariant.0.number, c.requires.few)

pub returns-in_err-write_next-clause-runs : goal.returns-in_err-write_next-clause-runs
returns-in_err-write_next-clause-runs g c =
    let s = g.C.Cycles.standing c.cycles.run in
    let m = g.C.Cycles.standing c.cycle.new.self in
    let was = c.cycles.invariant.0 in
    let step = goes_on s m (Ok (progress.Cycled c.in-Cycled.at)) c.cycle.new.records was.goes (rw c.in-Cycled.is at c.in-Ok.ensures.goes) in
    let s0 = g.C.Cycles.standing c.args.run.now in
    let new = g.R.Room.outside c.write_next.new.room in
    let why = c.in_err-write_next.field-0.0 in
    let is : c.from_residual.result ≡ Err why = search rules in
    subst (λ (r : Result Ending Unwritten). RunsTo (asking_of c.args.asked.now s0) (rest_of c.args.most s0) c.args.going.now c.write_next.new.going (g.R.Room.outside c.args.room.now) new (spent_between g.C.Cycles.is_counted c.args.steps.now c.cycle.new.steps) r) (sym is)
    (breaks_next c.args.asked.now c.args.most c.cycles.left (g.C.Cycles.standing c.args.run.now) s c.args.going.now c.cycles.going.drawn c.cycles.going.counted c.cycles.going.cycles (g.R.Room.outside c.args.room.now) (g.R.Room.outside c.cycles.room) (spent_between g.C.Cycles.is_counted c.args.steps.now c.cycles.steps) was
    m c.in-Cycled.at c.cycle.new.records c.model.result.now new why c.cycle.new.steps (omega arith) step c.model.ensures (c.in_err-write_next.ensures.texts step.cycle step.records_are step.time (settings_at s0.settings)) c.cycle.ensures.visits)

pub returns-in_err-write_next-clause-keeps : goal.returns-in_err-write_next-clause-keeps
returns-in_err-write_next-clause-keeps g c =
    let s = g.C.Cycles.standing c.cycles.run in
    let m = g.C.Cycles.standing c.cycle.new.self in
    let was = c.cycles.invariant.0 in
    let step = goes_on s m (Ok (progress.Cycled c.in-Cycled.at)) c.cycle.new.records was.goes (rw c.in-Cycled.is at c.in-Ok.ensures.goes) in
    keeps-trans (g.C.Cycles.standing c.args.run.now) s m was.keeps step.keeps

pub returns-in_err-write_next-clause-left : goal.returns-in_err-write_next-clause-left
returns-in_err-write_next-clause-left g c =
    let s0 = g.C.Cycles.standing c.args.run.now in
    let why = c.in_err-write_next.field-0.0 in
    let is : c.from_residual.result ≡ Err why = search rules in
    subst (λ (r : Result Ending Unwritten). DoneIn r (rest_of c.args.most s0).left (g.C.Cycles.standing c.cycle.new.self)) (sym is) tt

pub cycles-preserved : goal.cycles-preserved
cycles-preserved g c =
    let s = g.C.Cycles.standing c.cycles.run in
    let m = g.C.Cycles.standing c.cycle.new.self in
    let was = c.cycles.invariant.0 in
    let step = goes_on s m (Ok (progress.Cycled c.in-Cycled.at)) c.cycle.new.records was.goes (rw c.in-Cycled.is at c.in-Ok.ensures.goes) in
    let s0 = g.C.Cycles.standing c.args.run.now in
    let new = g.R.Room.outside c.write_next.new.room in
    let e = c.in_ok-write_next.ensures in (
      stands_next c.args.asked.now c.args.most c.cycles.left (g.C.Cycles.standing c.args.run.now) s c.args.going.now c.cycles.going.drawn c.cycles.going.counted c.cycles.going.cycles (g.R.Room.outside c.args.room.now) (g.R.Room.outside c.cycles.room) (spent_between g.C.Cycles.is_counted c.args.steps.now c.cycles.steps) was
          m c.in-Cycled.at c.cycle.new.records c.model.result.now new c.write_next.new.going.drawn c.write_next.new.going.counted c.write_next.new.going.cycles c.cycle.new.steps (omega arith) step c.model.ensures
          (e.texts step.cycle step.records_are step.time (settings_at s0.settings)) (e.drawn step.cycle step.records_are step.time) (e.counted step.cycle step.records_are) e.cycles c.cycle.ensures.visits,
      marks_next c.cycles.left s m (g.C.Cycles.marking c.cycles.run) (g.C.Cycles.marking c.cycle.new.self) c.in-Cycled.at c.cycle.new.records (omega arith) was.goes step (rw c.in-Cycled.is at c.in-Ok.ensures.marks) ∙ c.cycles.invariant.1,
    )

pub returns-in-Err-clause-visits : goal.returns-in-Err-clause-visits
returns-in-Err-clause-visits g c =
    let s = g.C.Cycles.standing c.cycles.run in
    let was = c.cycles.invariant.0 in
    costs_here c.args.asked.now c.args.most c.cycles.left (g.C.Cycles.standing c.args.run.now) s c.args.going.now c.cycles.going.drawn c.cycles.going.counted c.cycles.going.cycles (g.R.Room.outside c.args.room.now) (g.R.Room.outside c.cycles.room) (spent_between g.C.Cycles.is_counted c.args.steps.now c.cycles.steps) was c.cycle.new.steps c.cycle.ensures.visits

pub returns-in-Done-clause-visits : goal.returns-in-Done-clause-visits
returns-in-Done-clause-visits g c =
    let s = g.C.Cycles.standing c.cycles.run in
    let was = c.cycles.invariant.0 in
    costs_here c.args.asked.now c.args.most c.cycles.left (g.C.Cycles.standing c.args.run.now) s c.args.going.now c.cycles.going.drawn c.cycles.going.counted c.cycles.going.cycles (g.R.Room.outside c.args.room.now) (g.R.Room.outside c.cycles.room) (spent_between g.C.Cycles.is_counted c.args.steps.now c.cycles.steps) was c.cycle.new.steps c.cycle.ensures.visits

pub returns-in_err-write_next-clause-visits : goal.returns-in_err-write_next-clause-visits
returns-in_err-write_next-clause-visits g c =
    let s = g.C.Cycles.standing c.cycles.run in
    let was = c.cycles.invariant.0 in
    costs_here c.args.asked.now c.args.most c.cycles.left (g.C.Cycles.standing c.args.run.now) s c.args.going.now c.cycles.going.drawn c.cycles.going.counted c.cycles.going.cycles (g.R.Room.outside c.args.room.now) (g.R.Room.outside c.cycles.room) (spent_between g.C.Cycles.is_counted c.args.steps.now c.cycles.steps) was c.cycle.new.steps c.cycle.ensures.visits
