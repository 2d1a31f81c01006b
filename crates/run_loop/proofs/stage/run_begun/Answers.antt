use Rattle.std.proofs.Common.{ℕ, ◌+◌, ◌≤◌, [], refl, subst, ◌∙◌, arith}
use Rattle.std.proofs.lemmas.Bool.{OnTrue_at, OnTrue_from}
use Rattle.model_leaves.specs.declared.table.Model.{Model}
use Rattle.model_leaves.specs.Models.{tree_of}
use Rattle.run_model.specs.Visits.{visits}
use Rattle.answer_model.specs.Answer.{only_complains}
use Rattle.answer_model.specs.declared.status.Status.TheVariants.{NoMemory}
use Rattle.answer_model.specs.Status.{of_run}
use Rattle.answer_model.specs.Endings.{looked_for, made_after}
use Rattle.answer_model.specs.Visits.{state_visits}
use Rattle.answer_model.proofs.Endings.{rose_later}
use Rattle.answer_model.proofs.FaultLemmas.{then_answers}
use Rattle.answer_model.proofs.Stages.{then_ends}
use Rattle.asked_words.specs.Shown.{asked_of}
use Rattle.run_leaves.specs.Seated.{settings_at}
use Rattle.run_leaves.specs.Standing.{tree_in}
use Rattle.run_loop.specs.Texts.{no_texts, files}
use Rattle.run_loop.specs.AskedFiles.{names_of}
use Rattle.run_loop.specs.Groups.{showing_at_start}
use Rattle.run_loop.proofs.Adding.{no_fewer}
use Rattle.run_loop.proofs.Making.{all_created, unmade_ends, fell_ends, making_blames, falls_blames, making_answers, falls_answers, clean_makes, tells_among, tells_rose}
use Rattle.run_loop.specs.Answers.{answer_to}
use Rattle.run_loop.specs.Left.{rest_of}
use Rattle.run_loop.specs.Ran.{asking_of}
use Rattle.run_loop.specs.Leaves.{spent_between}
use Rattle.run_loop.proofs.Answered.{most, fit_to, answer_as}
use Rattle.run_loop.proofs.Apart.{names_apart}
use Rattle.run_loop.proofs.Sounds.{have_values}
use Rattle.run_loop.proofs.Marks.{none_saved, marked_said}
use Rattle.run_loop.proofs.Stands.{all_pieces, begun_whole}
use Rattle.run_loop.proofs.Ended.{TellsAny, created_ends, created_known, created_rose, created_made, created_answers}
use Rattle.run_loop.proofs.Leaving.{whole_leaves, broken_leaves, unmade_leaves, leaves_as}
use Rattle.run_loop.proofs.stage.run_begun.Goals as goal

-- ---- files that are not made

pub tell_unwritten-requires : goal.tell_unwritten-requires
tell_unwritten-requires g c = making_blames (names_of c.args.asked.now) c.in-Err.unmade _ _ c.in-Err.ensures

pub returns-in-Err-clause-ends : goal.returns-in-Err-clause-ends
returns-in-Err-clause-ends g c = λ events from inputs begins.
    let s = g.C.Cycles.standing c.args.run.now in
    let a = c.args.asked.now in
    let old = g.R.Room.outside c.args.room.now in
    let mid = g.R.Room.outside c.create_files.new.room in
    let new = g.R.Room.outside c.tell_unwritten.new.room in
    let x = answer_to (asked_of a) events from s inputs in
    let is = answer_as a c.requires.may_run.0 s events from inputs (most a) (showing_at_start (tree_in s) from (asked_of a).frames) c.requires.may_run.1 c.runs_are_fit.ensures begins refl refl in
    unmade_ends x (names_of a) _ c.in-Err.unmade inputs old mid new c.tell_unwritten.result is.made (names_apart a c.requires.may_run.1.names) c.in-Err.ensures c.tell_unwritten.ensures

pub returns-in-Err-clause-known : goal.returns-in-Err-clause-known
returns-in-Err-clause-known g c =
    let n = names_of c.args.asked.now in
    tells_among of_run n c.in-Err.unmade (g.R.Room.outside c.create_files.new.room) (g.R.Room.outside c.tell_unwritten.new.room) c.tell_unwritten.result (making_blames n c.in-Err.unmade _ _ c.in-Err.ensures) refl refl c.tell_unwritten.ensures

pub returns-in-Err-clause-write_fault : goal.returns-in-Err-clause-write_fault
returns-in-Err-clause-write_fault g c = λ five.
    let n = names_of c.args.asked.now in
    tells_rose n c.in-Err.unmade (g.R.Room.outside c.args.room.now) (g.R.Room.outside c.create_files.new.room) (g.R.Room.outside c.tell_unwritten.new.room) c.tell_unwritten.result (making_blames n c.in-Err.unmade _ _ c.in-Err.ensures) c.in-Err.ensures.keeps c.in-Err.ensures.fault c.tell_unwritten.ensures five

pub returns-in-Err-clause-faults : goal.returns-in-Err-clause-faults
returns-in-Err-clause-faults g c =
    making_answers (names_of c.args.asked.now) c.in-Err.unmade (g.R.Room.outside c.args.room.now) (g.R.Room.outside c.create_files.new.room) (g.R.Room.outside c.tell_unwritten.new.room) c.tell_unwritten.result c.in-Err.ensures c.tell_unwritten.ensures

pub returns-in-Err-clause-leaves : goal.returns-in-Err-clause-leaves
returns-in-Err-clause-leaves g c = λ before cost events from begins.
    let s = g.C.Cycles.standing c.args.run.now in
    let a = c.args.asked.now in
    let old = g.R.Room.outside c.args.room.now in
    let mid = g.R.Room.outside c.create_files.new.room in
    let new = g.R.Room.outside c.tell_unwritten.new.room in
    unmade_leaves (only_complains NoMemory [] []) (asking_of a s) (rest_of (most a) s) (showing_at_start (tree_in s) from (asked_of a).frames) c.in-Err.unmade old mid new g.C.Cycles.is_counted before c.args.steps.now c.tell_unwritten.result cost c.in-Err.ensures c.tell_unwritten.ensures

pub returns-in-Err-clause-visits : goal.returns-in-Err-clause-visits
returns-in-Err-clause-visits g c = λ before cost. OnTrue_from g.C.Cycles.is_counted _ (λ on. omega (arith, cost))

-- ---- the run

pub run_all-requires-clause-apart : goal.run_all-requires-clause-apart
run_all-requires-clause-apart g c = names_apart c.args.asked.now c.requires.may_run.1.names

pub run_all-requires-clause-created : goal.run_all-requires-clause-created
run_all-requires-clause-created g c = all_created (names_of c.args.asked.now) (g.R.Room.outside c.args.room.now) (g.R.Room.outside c.create_files.new.room) c.in-Ok.ensures

pub run_all-requires-clause-few : goal.run_all-requires-clause-few
run_all-requires-clause-few g c = omega (arith, c.requires.counted.cycles, c.most_cycles-most.ensures.bounded)

pub run_all-requires-clause-values : goal.run_all-requires-clause-values
run_all-requires-clause-values g c = have_values (tree_in (g.C.Cycles.standing c.args.run.now)) c.requires.may_run.1.sound

pub run_all-requires-clause-fit : goal.run_all-requires-clause-fit
run_all-requires-clause-fit g c = fit_to c.args.asked.now c.requires.may_run.0 (g.C.Cycles.standing c.args.run.now) c.most_cycles-most.result c.requires.may_run.1 c.runs_are_fit.ensures c.most_cycles-most.ensures.value

pub run_all-requires-clause-unserved : goal.run_all-requires-clause-unserved
run_all-requires-clause-unserved g c = none_saved c.args.asked.now (g.C.Cycles.marking c.args.run.now) c.requires.ordered

-- ---- a run that ended

pub returns-in-Ok-run_all-clause-ends : goal.returns-in-Ok-run_all-clause-ends
returns-in-Ok-run_all-clause-ends g c = λ events from inputs begins.
    let s = g.C.Cycles.standing c.args.run.now in
    let a = c.args.asked.now in
    let n = names_of a in
    let old = g.R.Room.outside c.args.room.now in
    let made = g.R.Room.outside c.create_files.new.room in
    let mid = g.R.Room.outside c.run_all.new.room in
    let new = g.R.Room.outside c.tell_ending.new.room in
    let was = c.args.going.now in
    let k = c.most_cycles-most.result in
    let r = rest_of k s in
    let x = answer_to (asked_of a) events from s inputs in
    let tells = subst (λ (m : Model). TellsAny c.mark.result (asked_of a) (tree_of m (settings_at s.settings)) c.run_all.new.going c.in-Ok-run_all.ending mid new c.tell_ending.result) (c.model.ensures ∙ c.in-Ok-run_all.ensures.keeps.model) (c.tell_ending.ensures (settings_at s.settings)) in
    let is = answer_as a c.requires.may_run.0 s events from inputs k was.drawn c.requires.may_run.1 c.runs_are_fit.ensures begins c.most_cycles-most.ensures.value (c.requires.drawn events from begins) in
    let same = marked_said a c.requires.may_run.0 s events from k r.cycles r.verdict c.in-Ok-run_all.ending (g.C.Cycles.marking c.args.run.now) (g.C.Cycles.marking c.run_all.new.run) c.mark.result c.requires.may_run.1 c.requires.ordered begins c.most_cycles-most.ensures.value
    c.in-Ok-run_all.ensures.runs.0.verdict c.in-Ok-run_all.ensures.marked c.mark.ensures in
    then_ends x (looked_for inputs) (made_after inputs (files n no_texts)) old made new c.tell_ending.result (c.in-Ok.ensures.leads x inputs)
    (created_ends n (all_pieces a s r was.drawn) c.mark.result (asked_of a) (tree_in s) r made mid new was c.run_all.new.going c.in-Ok-run_all.ending c.tell_ending.result c.requires.counted c.in-Ok-run_all.ensures.runs.0 c.in-Ok-run_all.ensures.runs.1 tells x events inputs same is)

pub returns-in-Ok-run_all-clause-known : goal.returns-in-Ok-run_all-clause-known
returns-in-Ok-run_all-clause-known g c =
    let s = g.C.Cycles.standing c.args.run.now in
    let a = c.args.asked.now in
    let made = g.R.Room.outside c.create_files.new.room in
    let mid = g.R.Room.outside c.run_all.new.room in
    let new = g.R.Room.outside c.tell_ending.new.room in
    let was = c.args.going.now in
    let r = rest_of c.most_cycles-most.result s in
    let tells = subst (λ (m : Model). TellsAny c.mark.result (asked_of a) (tree_of m (settings_at s.settings)) c.run_all.new.going c.in-Ok-run_all.ending mid new c.tell_ending.result) (c.model.ensures ∙ c.in-Ok-run_all.ensures.keeps.model) (c.tell_ending.ensures (settings_at s.settings)) in
    created_known (names_of a) (all_pieces a s r was.drawn) c.mark.result (asked_of a) (tree_in s) r made mid new was c.run_all.new.going c.in-Ok-run_all.ending c.tell_ending.result c.requires.counted c.in-Ok-run_all.ensures.runs.0 c.in-Ok-run_all.ensures.runs.1 tells

pub returns-in-Ok-run_all-clause-write_fault : goal.returns-in-Ok-run_all-clause-write_fault
returns-in-Ok-run_all-clause-write_fault g c = λ five.
    let s = g.C.Cycles.standing c.args.run.now in
    let a = c.args.asked.now in
    let old = g.R.Room.outside c.args.room.now in
    let made = g.R.Room.outside c.create_files.new.room in
    let mid = g.R.Room.outside c.run_all.new.room in
    let new = g.R.Room.outside c.tell_ending.new.room in
    let was = c.args.going.now in
    let r = rest_of c.most_cycles-most.result s in
    let tells = subst (λ (m : Model). TellsAny c.mark.result (asked_of a) (tree_of m (settings_at s.settings)) c.run_all.new.going c.in-Ok-run_all.ending mid new c.tell_ending.result) (c.model.ensures ∙ c.in-Ok-run_all.ensures.keeps.model) (c.tell_ending.ensures (settings_at s.settings)) in
    rose_later old.write_faults made.write_faults new.write_faults (no_fewer old made c.in-Ok.ensures.sure)
    (created_rose (names_of a) (all_pieces a s r was.drawn) c.mark.result (asked_of a) (tree_in s) r made mid new was c.run_all.new.going c.in-Ok-run_all.ending c.tell_ending.result c.requires.counted c.in-Ok-run_all.ensures.runs.0 c.in-Ok-run_all.ensures.runs.1 tells five)

pub returns-in-Ok-run_all-clause-faults : goal.returns-in-Ok-run_all-clause-faults
returns-in-Ok-run_all-clause-faults g c =
    let s = g.C.Cycles.standing c.args.run.now in
    let a = c.args.asked.now in
    let old = g.R.Room.outside c.args.room.now in
    let made = g.R.Room.outside c.create_files.new.room in
    let mid = g.R.Room.outside c.run_all.new.room in
    let new = g.R.Room.outside c.tell_ending.new.room in
    let was = c.args.going.now in
    let r = rest_of c.most_cycles-most.result s in
    let tells = subst (λ (m : Model). TellsAny c.mark.result (asked_of a) (tree_of m (settings_at s.settings)) c.run_all.new.going c.in-Ok-run_all.ending mid new c.tell_ending.result) (c.model.ensures ∙ c.in-Ok-run_all.ensures.keeps.model) (c.tell_ending.ensures (settings_at s.settings)) in
    then_answers old made new c.tell_ending.result (clean_makes (names_of a) old made c.in-Ok.ensures)
    (created_answers (names_of a) (all_pieces a s r was.drawn) c.mark.result (asked_of a) (tree_in s) r made mid new was c.run_all.new.going c.in-Ok-run_all.ending c.tell_ending.result c.requires.counted c.in-Ok-run_all.ensures.runs.0 c.in-Ok-run_all.ensures.runs.1 tells)

pub returns-in-Ok-run_all-clause-leaves : goal.returns-in-Ok-run_all-clause-leaves
returns-in-Ok-run_all-clause-leaves g c = λ before cost events from begins.
    let s = g.C.Cycles.standing c.args.run.now in
    let a = c.args.asked.now in
    let old = g.R.Room.outside c.args.room.now in
    let made = g.R.Room.outside c.create_files.new.room in
    let mid = g.R.Room.outside c.run_all.new.room in
    let new = g.R.Room.outside c.tell_ending.new.room in
    let was = c.args.going.now in
    let k = c.most_cycles-most.result in
    let r = rest_of k s in
    let tells = subst (λ (m : Model). TellsAny c.mark.result (asked_of a) (tree_of m (settings_at s.settings)) c.run_all.new.going c.in-Ok-run_all.ending mid new c.tell_ending.result) (c.model.ensures ∙ c.in-Ok-run_all.ensures.keeps.model) (c.tell_ending.ensures (settings_at s.settings)) in
    let same = created_made c.mark.result (asked_of a) (tree_in s) r mid new was c.run_all.new.going c.in-Ok-run_all.ending c.tell_ending.result c.requires.counted c.in-Ok-run_all.ensures.runs.0 tells in
    leaves_as (asking_of a s) s k (most a) was.drawn (showing_at_start (tree_in s) from (asked_of a).frames) old new (spent_between g.C.Cycles.is_counted before c.run_all.new.steps) c.tell_ending.result c.most_cycles-most.ensures.value (c.requires.drawn events from begins)
    (whole_leaves (only_complains NoMemory [] []) (asking_of a s) r was c.run_all.new.going old made mid new g.C.Cycles.is_counted before c.args.steps.now c.run_all.new.steps c.in-Ok-run_all.ending c.tell_ending.result cost c.in-Ok.ensures c.in-Ok-run_all.ensures.runs same)

pub returns-in-Ok-run_all-clause-visits : goal.returns-in-Ok-run_all-clause-visits
returns-in-Ok-run_all-clause-visits g c = λ before cost.
    let s = g.C.Cycles.standing c.args.run.now in
    let a = c.args.asked.now in
    OnTrue_from g.C.Cycles.is_counted _ (λ on.
    let ran = subst (λ (k : ℕ). c.run_all.new.steps ≤ c.args.steps.now + visits (tree_in s) (rest_of k s) + state_visits (names_of a).state (tree_in s)) c.most_cycles-most.ensures.value (OnTrue_at on c.run_all.ensures.visits) in
    omega (arith, cost, ran))

-- ---- a run that broke off

pub tell_unwritten-requires-in-Err-run_all : goal.tell_unwritten-requires-in-Err-run_all
tell_unwritten-requires-in-Err-run_all g c = falls_blames (names_of c.args.asked.now) c.in-Err-run_all.why _ _ _ c.in-Err-run_all.ensures.runs.falls

pub returns-in-Err-run_all-clause-ends : goal.returns-in-Err-run_all-clause-ends
returns-in-Err-run_all-clause-ends g c = λ events from inputs begins.
    let s = g.C.Cycles.standing c.args.run.now in
    let a = c.args.asked.now in
    let n = names_of a in
    let old = g.R.Room.outside c.args.room.now in
    let made = g.R.Room.outside c.create_files.new.room in
    let mid = g.R.Room.outside c.run_all.new.room in
    let new = g.R.Room.outside c.tell_unwritten-in-Err-run_all.new.room in
    let status = c.tell_unwritten-in-Err-run_all.result in
    let was = c.args.going.now in
    let k = c.most_cycles-most.result in
    let r = rest_of k s in
    let x = answer_to (asked_of a) events from s inputs in
    let is = answer_as a c.requires.may_run.0 s events from inputs k was.drawn c.requires.may_run.1 c.runs_are_fit.ensures begins c.most_cycles-most.ensures.value (c.requires.drawn events from begins) in
    let falls = begun_whole a s c.in-Err-run_all.why r was.drawn made mid (spent_between g.C.Cycles.is_counted c.args.steps.now c.run_all.new.steps) c.in-Err-run_all.ensures.runs in
    then_ends x (looked_for inputs) (made_after inputs (files n no_texts)) old made new status (c.in-Ok.ensures.leads x inputs)
    (fell_ends x n (all_pieces a s r was.drawn) c.in-Err-run_all.why inputs made mid new status is.made (names_apart a c.requires.may_run.1.names) falls c.tell_unwritten-in-Err-run_all.ensures)

pub returns-in-Err-run_all-clause-known : goal.returns-in-Err-run_all-clause-known
returns-in-Err-run_all-clause-known g c =
    let n = names_of c.args.asked.now in
    tells_among of_run n c.in-Err-run_all.why (g.R.Room.outside c.run_all.new.room) (g.R.Room.outside c.tell_unwritten-in-Err-run_all.new.room) c.tell_unwritten-in-Err-run_all.result (falls_blames n c.in-Err-run_all.why _ _ _ c.in-Err-run_all.ensures.runs.falls) refl refl c.tell_unwritten-in-Err-run_all.ensures

pub returns-in-Err-run_all-clause-write_fault : goal.returns-in-Err-run_all-clause-write_fault
returns-in-Err-run_all-clause-write_fault g c = λ five.
    let s = g.C.Cycles.standing c.args.run.now in
    let a = c.args.asked.now in
    let n = names_of a in
    let old = g.R.Room.outside c.args.room.now in
    let made = g.R.Room.outside c.create_files.new.room in
    let mid = g.R.Room.outside c.run_all.new.room in
    let new = g.R.Room.outside c.tell_unwritten-in-Err-run_all.new.room in
    let falls = begun_whole a s c.in-Err-run_all.why (rest_of c.most_cycles-most.result s) c.args.going.now.drawn made mid (spent_between g.C.Cycles.is_counted c.args.steps.now c.run_all.new.steps) c.in-Err-run_all.ensures.runs in
    rose_later old.write_faults made.write_faults new.write_faults (no_fewer old made c.in-Ok.ensures.sure)
    (tells_rose n c.in-Err-run_all.why made mid new c.tell_unwritten-in-Err-run_all.result (falls_blames n c.in-Err-run_all.why _ _ _ falls) falls.adds.keeps falls.fault c.tell_unwritten-in-Err-run_all.ensures five)

pub returns-in-Err-run_all-clause-faults : goal.returns-in-Err-run_all-clause-faults
returns-in-Err-run_all-clause-faults g c =
    let s = g.C.Cycles.standing c.args.run.now in
    let a = c.args.asked.now in
    let n = names_of a in
    let old = g.R.Room.outside c.args.room.now in
    let made = g.R.Room.outside c.create_files.new.room in
    let mid = g.R.Room.outside c.run_all.new.room in
    let new = g.R.Room.outside c.tell_unwritten-in-Err-run_all.new.room in
    let falls = begun_whole a s c.in-Err-run_all.why (rest_of c.most_cycles-most.result s) c.args.going.now.drawn made mid (spent_between g.C.Cycles.is_counted c.args.steps.now c.run_all.new.steps) c.in-Err-run_all.ensures.runs in
    then_answers old made new c.tell_unwritten-in-Err-run_all.result (clean_makes n old made c.in-Ok.ensures)
    (falls_answers n c.in-Err-run_all.why _ made mid new c.tell_unwritten-in-Err-run_all.result falls c.tell_unwritten-in-Err-run_all.ensures)

pub returns-in-Err-run_all-clause-leaves : goal.returns-in-Err-run_all-clause-leaves
returns-in-Err-run_all-clause-leaves g c = λ before cost events from begins.
    let s = g.C.Cycles.standing c.args.run.now in
    let a = c.args.asked.now in
    let old = g.R.Room.outside c.args.room.now in
    let made = g.R.Room.outside c.create_files.new.room in
    let mid = g.R.Room.outside c.run_all.new.room in
    let new = g.R.Room.outside c.tell_unwritten-in-Err-run_all.new.room in
    let was = c.args.going.now in
    let k = c.most_cycles-most.result in
    let r = rest_of k s in
    let status = c.tell_unwritten-in-Err-run_all.result in
    leaves_as (asking_of a s) s k (most a) was.drawn (showing_at_start (tree_in s) from (asked_of a).frames) old new (spent_between g.C.Cycles.is_counted before c.run_all.new.steps) status c.most_cycles-most.ensures.value (c.requires.drawn events from begins)
    (broken_leaves (only_complains NoMemory [] []) (asking_of a s) c.in-Err-run_all.why r was.drawn old made mid new g.C.Cycles.is_counted before c.args.steps.now c.run_all.new.steps status cost c.in-Ok.ensures c.in-Err-run_all.ensures.runs c.tell_unwritten-in-Err-run_all.ensures)

pub returns-in-Err-run_all-clause-visits : goal.returns-in-Err-run_all-clause-visits
returns-in-Err-run_all-clause-visits g c = λ before cost.
    let s = g.C.Cycles.standing c.args.run.now in
    let a = c.args.asked.now in
    OnTrue_from g.C.Cycles.is_counted _ (λ on.
    let ran = subst (λ (k : ℕ). c.run_all.new.steps ≤ c.args.steps.now + visits (tree_in s) (rest_of k s) + state_visits (names_of a).state (tree_in s)) c.most_cycles-most.ensures.value (OnTrue_at on c.run_all.ensures.visits) in
    omega (arith, cost, ran))
