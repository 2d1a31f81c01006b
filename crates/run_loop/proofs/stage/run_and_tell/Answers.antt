use Rattle.std.proofs.Common.{refl, arith}
use Rattle.std.proofs.lemmas.Bool.{OnTrue_from}
use Rattle.answer_model.specs.declared.status.Status.TheVariants.{NoMemory}
use Rattle.answer_model.specs.Endings.{looked_for}
use Rattle.answer_model.proofs.Endings.{endings_follow}
use Rattle.answer_model.proofs.FaultLemmas.{clean_answers}
use Rattle.answer_model.proofs.Outcomes.{none_begun}
use Rattle.asked_words.specs.Shown.{asked_of}
use Rattle.run_leaves.specs.Standing.{tree_in}
use Rattle.run_loop.specs.Groups.{showing_at_start}
use Rattle.run_loop.specs.Answers.{answer_to}
use Rattle.run_loop.specs.Left.{rest_of}
use Rattle.run_loop.specs.Ran.{asking_of}
use Rattle.run_loop.proofs.Answered.{most}
use Rattle.run_loop.proofs.Sounds.{few_leaves}
use Rattle.run_loop.proofs.Marks.{none_read}
use Rattle.run_loop.proofs.Leaving.{none_leaves}
use Rattle.run_loop.proofs.stage.run_and_tell.Goals as goal

-- ---- what a run begins with

pub begin-requires-clause-few : goal.begin-requires-clause-few
begin-requires-clause-few g c = few_leaves (tree_in (g.C.Cycles.standing c.args.run.now)) c.requires.may_run.sound

pub begin-requires-clause-unserved : goal.begin-requires-clause-unserved
begin-requires-clause-unserved g c = none_read c.args.asked.now (g.C.Cycles.marking c.args.run.now) c.requires.ordered

pub returns-in_default-clause-ends : goal.returns-in_default-clause-ends
returns-in_default-clause-ends g c = λ events from inputs begins.
    let x = answer_to (asked_of c.args.asked.now) events from (g.C.Cycles.standing c.args.run.now) inputs in
    endings_follow.memory x (looked_for inputs) (g.R.Room.outside c.args.room.now) (none_begun x (looked_for inputs) refl refl)

pub returns-in_default-clause-known : goal.returns-in_default-clause-known
returns-in_default-clause-known g c = refl

pub returns-in_default-clause-faults : goal.returns-in_default-clause-faults
returns-in_default-clause-faults g c =
    let now = g.R.Room.outside c.args.room.now in
    clean_answers now now NoMemory (record { writes = refl; complaints = refl; reads = refl; quiet = refl })

pub returns-in_default-clause-leaves : goal.returns-in_default-clause-leaves
returns-in_default-clause-leaves g c = λ events from begins.
    let s = g.C.Cycles.standing c.args.run.now in
    let a = c.args.asked.now in
    none_leaves (asking_of a s) (rest_of (most a) s) (showing_at_start (tree_in s) from (asked_of a).frames) (g.R.Room.outside c.args.room.now) g.C.Cycles.is_counted c.args.steps.now c.begin.new.steps c.begin.ensures.visits

pub returns-in_default-clause-visits : goal.returns-in_default-clause-visits
returns-in_default-clause-visits g c = OnTrue_from g.C.Cycles.is_counted _ (λ on. omega (arith, c.begin.ensures.visits))

-- ---- a run that is begun

pub run_begun-requires-clause-may_run : goal.run_begun-requires-clause-may_run
run_begun-requires-clause-may_run g c = (c.args.drawn, c.requires.may_run)

pub returns-clause-ends : goal.returns-clause-ends
returns-clause-ends g c = c.run_begun.ensures.ends

pub returns-clause-known : goal.returns-clause-known
returns-clause-known g c = c.run_begun.ensures.known

pub returns-clause-write_fault : goal.returns-clause-write_fault
returns-clause-write_fault g c = c.run_begun.ensures.write_fault

pub returns-clause-faults : goal.returns-clause-faults
returns-clause-faults g c = c.run_begun.ensures.faults

pub returns-clause-leaves : goal.returns-clause-leaves
returns-clause-leaves g c = c.run_begun.ensures.leaves c.args.steps.now c.begin.ensures.visits

pub returns-clause-visits : goal.returns-clause-visits
returns-clause-visits g c = c.run_begun.ensures.visits c.args.steps.now c.begin.ensures.visits
