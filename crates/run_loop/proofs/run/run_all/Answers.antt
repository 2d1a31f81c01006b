use Rattle.std.proofs.Common.{◌≡◌, refl, sym, subst, arith, rules}
use Rattle.std.specs.Prelude.{Result, Err, Ok}
use Rattle.std.specs.Option.{is_some}
use Rattle.std.proofs.lemmas.Bool.{OnTrue_at, OnTrue_from}
use Rattle.run_loop.specs.declared.outputs.Unwritten.{Unwritten}
use Rattle.run_loop.specs.declared.ending.Ending.{Ending}
use Rattle.run_loop.specs.Left.{rest_of}
use Rattle.run_loop.specs.Leaves.{spent_between}
use Rattle.run_loop.specs.Ran.{asking_of, RunsWhole}
use Rattle.run_loop.proofs.Whole.{left_in, writes_saved, cost_kept, cycles_created, frame_created, last_fell, state_fell, whole_run}
use Rattle.run_loop.proofs.run.run_all.Goals as goal

pub returns-in_err-ending-clause-runs : goal.returns-in_err-ending-clause-runs
returns-in_err-ending-clause-runs g c =
    let s = g.C.Cycles.standing c.args.run.now in
    let why = c.in_err-ending.field-0.0 in
    let is : c.from_residual.result ≡ Err why = search rules in
    subst (λ (r : Result Ending Unwritten). RunsWhole (asking_of c.args.asked.now s) (rest_of c.args.most s) c.args.going.now c.run_cycles.new.going (g.R.Room.outside c.args.room.now) (g.R.Room.outside c.run_cycles.new.room)
    (spent_between g.C.Cycles.is_counted c.args.steps.now c.run_cycles.new.steps) r) (sym is)
    c.in_err-ending.ensures.runs

pub write_last-requires-clause-created : goal.write_last-requires-clause-created
write_last-requires-clause-created g c =
    let s = g.C.Cycles.standing c.args.run.now in
    cycles_created c.args.asked.now s (rest_of c.args.most s) c.args.going.now c.run_cycles.new.going c.in_ok-ending.ending (g.R.Room.outside c.args.room.now) (g.R.Room.outside c.run_cycles.new.room) g.C.Cycles.is_counted c.args.steps.now c.run_cycles.new.steps
    c.in_ok-ending.ensures.runs c.requires.created

pub returns-in_err-write_last-clause-runs : goal.returns-in_err-write_last-clause-runs
returns-in_err-write_last-clause-runs g c =
    let s = g.C.Cycles.standing c.args.run.now in
    let old = g.R.Room.outside c.args.room.now in
    let mid = g.R.Room.outside c.run_cycles.new.room in
    let new = g.R.Room.outside c.write_last.new.room in
    let why = c.in_err-write_last.field-0.0 in
    let is : c.from_residual-in_err-write_last.result ≡ Err why = search rules in
    let gone = record c.run_cycles.new.going { drawn = c.write_last.new.drawn; piece = c.write_last.new.piece } in
    subst (λ (r : Result Ending Unwritten). RunsWhole (asking_of c.args.asked.now s) (rest_of c.args.most s) c.args.going.now gone old new (spent_between g.C.Cycles.is_counted c.args.steps.now c.run_cycles.new.steps) r) (sym is)
    (last_fell c.args.asked.now s (rest_of c.args.most s) c.args.going.now c.run_cycles.new.going c.in_ok-ending.ending old mid g.C.Cycles.is_counted c.args.steps.now c.run_cycles.new.steps c.in_ok-ending.ensures.runs why new c.in_err-write_last.ensures.texts)

pub write_saved-requires-clause-created : goal.write_saved-requires-clause-created
write_saved-requires-clause-created g c =
    let s = g.C.Cycles.standing c.args.run.now in
    frame_created c.args.asked.now s (rest_of c.args.most s) c.args.going.now c.run_cycles.new.going c.in_ok-ending.ending (g.R.Room.outside c.args.room.now) (g.R.Room.outside c.run_cycles.new.room) g.C.Cycles.is_counted c.args.steps.now c.run_cycles.new.steps
    c.in_ok-ending.ensures.runs (g.R.Room.outside c.write_last.new.room) c.in_ok-write_last.ensures.texts c.requires.created

pub write_saved-requires-clause-left : goal.write_saved-requires-clause-left
write_saved-requires-clause-left g c =
    left_in c.args.most (g.C.Cycles.standing c.args.run.now) (g.C.Cycles.standing c.run_cycles.new.run) c.in_ok-ending.ending (is_some c.args.asked.now.given.save) (g.C.Cycles.marking c.args.run.now) (g.C.Cycles.marking c.run_cycles.new.run) c.requires.fit c.run_cycles.ensures.keeps c.in_ok-ending.ensures.left
    c.requires.unserved c.in_ok-ending.ensures.marked

pub returns-in_err-write_saved-clause-runs : goal.returns-in_err-write_saved-clause-runs
returns-in_err-write_saved-clause-runs g c =
    let a = c.args.asked.now in
    let s = g.C.Cycles.standing c.args.run.now in
    let r = rest_of c.args.most s in
    let m = g.C.Cycles.standing c.run_cycles.new.run in
    let old = g.R.Room.outside c.args.room.now in
    let mid = g.R.Room.outside c.run_cycles.new.room in
    let next = g.R.Room.outside c.write_last.new.room in
    let new = g.R.Room.outside c.write_saved.new.room in
    let why = c.in_err-write_saved.field-0.0 in
    let is : c.from_residual-in_err-write_saved.result ≡ Err why = search rules in
    let gone = record c.run_cycles.new.going { drawn = c.write_last.new.drawn; piece = c.write_saved.new.piece } in
    let falls = writes_saved a r s m c.in_ok-ending.ending next new (Err why) c.run_cycles.ensures.keeps c.in_ok-ending.ensures.runs.0.verdict c.in_ok-ending.ensures.left c.in_err-write_saved.ensures.texts in
    let cost = cost_kept a s m c.run_cycles.new.steps c.write_saved.new.steps c.run_cycles.ensures.keeps c.write_saved.ensures.visits in
    subst (λ (x : Result Ending Unwritten). RunsWhole (asking_of a s) r c.args.going.now gone old new (spent_between g.C.Cycles.is_counted c.args.steps.now c.write_saved.new.steps) x) (sym is)
    (state_fell a s r c.args.going.now c.run_cycles.new.going c.in_ok-ending.ending old mid g.C.Cycles.is_counted c.args.steps.now c.run_cycles.new.steps c.in_ok-ending.ensures.runs why next new c.write_saved.new.steps c.in_ok-write_last.ensures.texts falls cost)

pub returns-in_err-ending-clause-visits : goal.returns-in_err-ending-clause-visits
returns-in_err-ending-clause-visits g c =
    OnTrue_from g.C.Cycles.is_counted _ (λ on. let ran = OnTrue_at on c.run_cycles.ensures.visits in omega (arith, ran))

pub returns-in_err-write_last-clause-visits : goal.returns-in_err-write_last-clause-visits
returns-in_err-write_last-clause-visits g c =
    OnTrue_from g.C.Cycles.is_counted _ (λ on. let ran = OnTrue_at on c.run_cycles.ensures.visits in omega (arith, ran))

pub returns-in_err-write_saved-clause-visits : goal.returns-in_err-write_saved-clause-visits
returns-in_err-write_saved-clause-visits g c =
    OnTrue_from g.C.Cycles.is_counted _ (λ on.
    let ran = OnTrue_at on c.run_cycles.ensures.visits in
    omega (arith, ran, cost_kept c.args.asked.now (g.C.Cycles.standing c.args.run.now) (g.C.Cycles.standing c.run_cycles.new.run) c.run_cycles.new.steps c.write_saved.new.steps c.run_cycles.ensures.keeps c.write_saved.ensures.visits))

pub returns-clause-runs : goal.returns-clause-runs
returns-clause-runs g c =
    let a = c.args.asked.now in
    let s = g.C.Cycles.standing c.args.run.now in
    let r = rest_of c.args.most s in
    let m = g.C.Cycles.standing c.run_cycles.new.run in
    let old = g.R.Room.outside c.args.room.now in
    let mid = g.R.Room.outside c.run_cycles.new.room in
    let next = g.R.Room.outside c.write_last.new.room in
    let new = g.R.Room.outside c.write_saved.new.room in
    let gone = record c.run_cycles.new.going { drawn = c.write_last.new.drawn; piece = c.write_saved.new.piece } in
    let state = writes_saved a r s m c.in_ok-ending.ending next new (Ok tt) c.run_cycles.ensures.keeps c.in_ok-ending.ensures.runs.0.verdict c.in_ok-ending.ensures.left c.in_ok-write_saved.ensures.texts in
    let cost = cost_kept a s m c.run_cycles.new.steps c.write_saved.new.steps c.run_cycles.ensures.keeps c.write_saved.ensures.visits in
    whole_run a s r c.args.going.now c.run_cycles.new.going c.in_ok-ending.ending old mid g.C.Cycles.is_counted c.args.steps.now c.run_cycles.new.steps c.in_ok-ending.ensures.runs gone next new c.write_saved.new.steps c.in_ok-write_last.ensures.texts state refl refl cost

pub returns-clause-visits : goal.returns-clause-visits
returns-clause-visits g c =
    OnTrue_from g.C.Cycles.is_counted _ (λ on.
    let ran = OnTrue_at on c.run_cycles.ensures.visits in
    omega (arith, ran, cost_kept c.args.asked.now (g.C.Cycles.standing c.args.run.now) (g.C.Cycles.standing c.run_cycles.new.run) c.run_cycles.new.steps c.write_saved.new.steps c.run_cycles.ensures.keeps c.write_saved.ensures.visits))

pub returns-clause-marked : goal.returns-clause-marked
returns-clause-marked g c = c.in_ok-ending.ensures.marked
