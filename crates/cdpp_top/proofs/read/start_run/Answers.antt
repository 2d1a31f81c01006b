use Rattle.std.proofs.Common.{refl, ◌∙◌}
use Rattle.answer_model.proofs.Causing.{nothing_read}
use Rattle.run_inputs.proofs.Causing.{nothing_told}
use Rattle.asked_run.proofs.Orders.{no_state_asked}
use Rattle.asked_run.specs.Starting.{tree_on}
use Rattle.asked_run.specs.declared.start.Start.{Start}
use Rattle.asked_run.specs.Stages.{StandsAt}
use Rattle.asked_run.specs.Ways.{standing_in, marking_in}
use Rattle.cdpp_top.proofs.Reading.{stops_at_run, stops_at_state, starts}
use Rattle.cdpp_top.proofs.read.start_run.Goals as goal

-- ---- no memory for the run

pub returns-in_default-clause-reads : goal.returns-in_default-clause-reads
returns-in_default-clause-reads g c =
    let x = c.args.asked in
    let tree = tree_on c.args.read.model c.args.stock in
    let now = g.R.Room.outside c.args.room.now in
    stops_at_run (λ (s : Start g.row.M.Denot). StandsAt s.asked (standing_in s.run)) x tree c.args.events now

pub returns-in_default-clause-causes : goal.returns-in_default-clause-causes
returns-in_default-clause-causes g c =
    let now = g.R.Room.outside c.args.room.now in
    λ after s tells. nothing_told now now after s (nothing_read now) refl tells

pub returns-in_default-clause-only : goal.returns-in_default-clause-only
returns-in_default-clause-only g c = nothing_read (g.R.Room.outside c.args.room.now)

-- ---- what the state stands on

pub read_state-requires-clause-may_go_on : goal.read_state-requires-clause-may_go_on
read_state-requires-clause-may_go_on g c = c.in-Ok.ensures.may_go_on

pub read_state-requires-clause-unserved : goal.read_state-requires-clause-unserved
read_state-requires-clause-unserved g c =
    let x = c.args.asked in
    let first = c.in-Ok in
    no_state_asked x (marking_in first.at_start) first.ensures.marked c.requires.may.runs.bounds.unsaved

-- ---- all is read

pub returns-in-Ok-read_state-clause-reads : goal.returns-in-Ok-read_state-clause-reads
returns-in-Ok-read_state-clause-reads g c =
    let x = c.args.asked in
    let old = g.R.Room.outside c.args.room.now in
    let new = g.R.Room.outside c.read_state.new.room in
    let first = c.in-Ok in
    let last = c.in-Ok-read_state in
    let start : Start g.row.M.Denot = record { asked = x; drawn = c.args.read.drawn; run = last.run' } in
    starts x (standing_in first.at_start) c.args.read.model c.args.stock c.args.events old new first.ensures.made (λ (s : Start g.row.M.Denot). StandsAt s.asked (standing_in s.run)) start (standing_in last.run') (λ s at. at) last.ensures.reads

pub returns-in-Ok-read_state-clause-may_run : goal.returns-in-Ok-read_state-clause-may_run
returns-in-Ok-read_state-clause-may_run g c =
    let r = c.args.read in
    c.runs_may_run.ensures c.args.asked c.args.stock r.model r.routes r.drawn c.args.events (standing_in c.in-Ok.at_start) (standing_in c.in-Ok-read_state.run') c.requires.may c.in-Ok.ensures.made c.in-Ok-read_state.ensures.goes_on

pub returns-in-Ok-read_state-clause-causes : goal.returns-in-Ok-read_state-clause-causes
returns-in-Ok-read_state-clause-causes g c = c.in-Ok-read_state.ensures.causes

pub returns-in-Ok-read_state-clause-only : goal.returns-in-Ok-read_state-clause-only
returns-in-Ok-read_state-clause-only g c = c.in-Ok-read_state.ensures.only

pub returns-in-Ok-read_state-clause-ordered : goal.returns-in-Ok-read_state-clause-ordered
returns-in-Ok-read_state-clause-ordered g c =
    record { marked = c.in-Ok-read_state.ensures.marked ∙ c.in-Ok.ensures.marked; unsaved = c.requires.may.runs.bounds.unsaved }

-- ---- there is no state

pub returns-clause-reads : goal.returns-clause-reads
returns-clause-reads g c =
    let x = c.args.asked in
    let old = g.R.Room.outside c.args.room.now in
    let new = g.R.Room.outside c.read_state.new.room in
    let first = c.in-Ok in
    stops_at_state x (standing_in first.at_start) c.args.read.model c.args.stock c.args.events old new first.ensures.made (λ (s : Start g.row.M.Denot). StandsAt s.asked (standing_in s.run)) c.in-Err.why c.in-Err.ensures.reads

pub returns-clause-causes : goal.returns-clause-causes
returns-clause-causes g c = c.in-Err.ensures.causes

pub returns-clause-only : goal.returns-clause-only
returns-clause-only g c = c.in-Err.ensures.only
