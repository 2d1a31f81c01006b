use Rattle.std.proofs.Common.{◌≤◌, List, Ok, Err, length, sym, ap, ◌∙◌, subst}
use Rattle.std.specs.Prelude.{IfSome}
use Rattle.quantity.specs.Bytes.{Bytes}
use Rattle.sparse_cycle.specs.Feed.{AreAtInputs}
use Rattle.model_tree.specs.declared.component.Coupled.{Coupled}
use Rattle.asked_words.specs.Shown.{text_of_name}
use Rattle.asked_run.specs.Starting.{tree_on}
use Rattle.asked_run.specs.declared.start.Start.{Start}
use Rattle.run_inputs.specs.Read.{ReadsEvents}
use Rattle.asked_run.specs.Stages.{StandsAt}
use Rattle.asked_run.specs.Ways.{standing_in}
use Rattle.run_inputs.proofs.Causing.{only_then}
use Rattle.asked_run.proofs.Groups.{sound_is}
use Rattle.cdpp_top.proofs.Causes.{causes_then}
use Rattle.cdpp_top.proofs.Reading.{stops_at_events, goes_from_events}
use Rattle.cdpp_top.proofs.read.read_run.Goals as goal

pub read_events-requires : goal.read_events-requires
read_events-requires g c =
    let ports = c.deref.ensures.value ∙ ap (λ (top : Coupled). top.ins.items) c.top.ensures in
    record { few = subst (λ (names : List Bytes). length names ≤ 65536) (sym ports) (sound_is (tree_on c.args.read.model c.args.stock) c.requires.runs.sound).ins }

-- ---- there are events

pub start_run-requires-clause-at_inputs : goal.start_run-requires-clause-at_inputs
start_run-requires-clause-at_inputs g c =
    let ports = c.deref.ensures.value ∙ ap (λ (top : Coupled). top.ins.items) c.top.ensures in
    subst (λ names. AreAtInputs names c.in-Ok.events) ports c.in-Ok.ensures.at_inputs

pub returns-in-Ok-clause-reads : goal.returns-in-Ok-clause-reads
returns-in-Ok-clause-reads g c =
    let x = c.args.asked in
    let old = g.R.Room.outside c.args.room.now in
    let mid = g.R.Room.outside c.read_events.new.room in
    let new = g.R.Room.outside c.start_run.new.room in
    let ports = c.deref.ensures.value ∙ ap (λ (top : Coupled). top.ins.items) c.top.ensures in
    let first = subst (λ (names : List Bytes). IfSome old.files (λ files. ReadsEvents (text_of_name x.given.events) names files old mid (Ok c.in-Ok.events))) ports c.in-Ok.ensures.reads in
    goes_from_events (λ (s : Start g.row.M.Denot). StandsAt s.asked (standing_in s.run)) x (tree_on c.args.read.model c.args.stock) old mid c.in-Ok.events new c.start_run.result c.in-Ok.ensures.only first c.start_run.ensures.reads

pub returns-in-Ok-clause-causes : goal.returns-in-Ok-clause-causes
returns-in-Ok-clause-causes g c =
    let e = c.in-Ok.ensures in
    causes_then (g.R.Room.outside c.args.room.now) (g.R.Room.outside c.read_events.new.room) (g.R.Room.outside c.start_run.new.room) c.start_run.result e.only e.causes.0 e.causes.1 c.start_run.ensures.causes

pub returns-in-Ok-clause-only : goal.returns-in-Ok-clause-only
returns-in-Ok-clause-only g c =
    only_then (g.R.Room.outside c.args.room.now) (g.R.Room.outside c.read_events.new.room) (g.R.Room.outside c.start_run.new.room) c.in-Ok.ensures.only c.start_run.ensures.only

-- ---- there are none

pub returns-clause-reads : goal.returns-clause-reads
returns-clause-reads g c =
    let x = c.args.asked in
    let old = g.R.Room.outside c.args.room.now in
    let new = g.R.Room.outside c.read_events.new.room in
    let ports = c.deref.ensures.value ∙ ap (λ (top : Coupled). top.ins.items) c.top.ensures in
    let ends = subst (λ (names : List Bytes). IfSome old.files (λ files. ReadsEvents (text_of_name x.given.events) names files old new (Err c.in-Err.why))) ports c.in-Err.ensures.reads in
    stops_at_events (λ (s : Start g.row.M.Denot). StandsAt s.asked (standing_in s.run)) x (tree_on c.args.read.model c.args.stock) old new c.in-Err.why ends
