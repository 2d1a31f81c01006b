use Rattle.std.proofs.Common.{◌∙◌, ℕ, false, length, Ok, Err, refl, sym, ap, subst, arith}
use Rattle.std.specs.Prelude.{replicate}
use Rattle.std.specs.List.{All, sum_by}
use Rattle.std.specs.Vec.{vec_capacity}
use Rattle.std.proofs.lemmas.List.{length-map}
use Rattle.model_leaves.specs.declared.path.Path.{Path}
use Rattle.route_flat.specs.Ways.{paths_of}
use Rattle.time_queue.specs.Waiting.{undue, leaves_at, without}
use Rattle.cycle_steps.specs.Gathering.{value_count}
use Rattle.cycle_steps.specs.Half.{due_give}
use Rattle.cycle_steps.specs.Paths.{IsPortOf}
use Rattle.run_leaves.specs.Seated.{visits_at}
use Rattle.flat_run.specs.Holds.{ports_in}
use Rattle.flat_run.specs.Running.{standing_at, tree_by, parts_at, RanTo, visits_in}
use Rattle.flat_run.proofs.Instants.{events-later}
use Rattle.run_leaves.proofs.Counted.{leaves-counted}
use Rattle.flat_run.proofs.Ran.{memory-ends, runs-by-walk}
use Rattle.flat_run.proofs.Turning.{waiting-counted, run-of, frame-kept, frame-left, ran-fits, counted, visits-within}
use Rattle.flat_run.proofs.cycle.run_cycle.Goals as goal

pub take_due-requires : goal.take_due-requires
take_due-requires g c =
    let leaves = c.args.parts.now.leaves in
    let many = waiting-counted (tree_by leaves) leaves (g.Q.TimeQueue.waiting c.args.queue.now) c.args.parts.now.work.woken c.args.parts.now.work.touched c.requires.stands in
    omega (arith, many, c.requires.frame.due_room)

pub take_inputs-requires : goal.take_inputs-requires
take_inputs-requires g c = events-later (standing_at c.args.parts.now.leaves.states c.args.events.now) c.args.t c.requires.instant

pub cycle_at-requires-clause-due : goal.cycle_at-requires-clause-due
cycle_at-requires-clause-due g c =
    let t = c.args.t in
    c.take_due.ensures.taken ∙ ap (leaves_at t) c.requires.stands.queue
    ∙ c.leaves_move_one_after_another.ensures.queue.due c.args.parts.now.leaves.states t

pub cycle_at-requires-clause-count : goal.cycle_at-requires-clause-count
cycle_at-requires-clause-count g c =
    let leaves = c.args.parts.now.leaves in
    c.requires.frame.watching_is.long ∙ sym (leaves-counted (tree_by leaves) leaves.states c.requires.stands.fits)

pub cycle_at-requires-clause-waiting : goal.cycle_at-requires-clause-waiting
cycle_at-requires-clause-waiting g c =
    let leaves = c.args.parts.now.leaves in
    let waiting = g.Q.TimeQueue.waiting c.args.queue.now in
    ap length c.take_due.ensures.left ∙ length-map waiting (undue c.args.t)
    ∙ waiting-counted (tree_by leaves) leaves waiting c.args.parts.now.work.woken c.args.parts.now.work.touched c.requires.stands
    ∙ sym c.requires.frame.watching_is.long

pub cycle_at-requires-clause-paths : goal.cycle_at-requires-clause-paths
cycle_at-requires-clause-paths g c =
    let tree = tree_by c.args.parts.now.leaves in
    subst (λ (n : ℕ). All (λ (p : Path). IsPortOf n (ports_in tree) p.to) (paths_of c.args.routes.now)) (sym c.requires.frame.watching_is.long) c.requires.frame.routes_are.ports

pub cycle_at-requires-clause-order : goal.cycle_at-requires-clause-order
cycle_at-requires-clause-order g c = c.requires.frame.routes_are.order

pub cycle_at-requires-clause-calm : goal.cycle_at-requires-clause-calm
cycle_at-requires-clause-calm g c =
    c.requires.stands.calm ∙ ap (λ (n : ℕ). replicate n false) (sym c.requires.frame.watching_is.long)

pub cycle_at-requires-clause-at_rest : goal.cycle_at-requires-clause-at_rest
cycle_at-requires-clause-at_rest g c =
    c.requires.stands.at_rest ∙ ap (λ (n : ℕ). replicate n false) (sym c.requires.frame.watching_is.long)

pub cycle_at-requires-clause-capacity : goal.cycle_at-requires-clause-capacity
cycle_at-requires-clause-capacity g c =
    omega (arith, c.requires.frame.watching_is.long, c.requires.frame.moving_room, c.clear.ensures.capacity)

pub returns-in-Ok-cycle_at-clause-runs : goal.returns-in-Ok-cycle_at-clause-runs
returns-in-Ok-cycle_at-clause-runs g c =
    let leaves = c.args.parts.now.leaves in
    let events = c.args.events.now in
    let t = c.args.t in
    let run = run-of (tree_by leaves) t leaves.states events c.args.routes.now c.args.parts.now.watchers (vec_capacity c.args.parts.now.work.due) (vec_capacity c.args.parts.now.work.moving) c.take_inputs.new.inputs.items c.requires.frame c.in-Ok.ensures.taken in
    runs-by-walk _ c.leaves_move_one_after_another.ensures.walk (tree_by leaves) t (standing_at leaves.states events) c.cycle_at.new.leaves.states
    (g.Q.TimeQueue.waiting c.take_due.new.queue) (g.Q.TimeQueue.waiting c.cycle_at.new.queue) c.take_inputs.new.events c.cycle_at.new.records (Ok c.in-Ok-cycle_at.field-0)
    c.requires.instant (c.take_due.ensures.left ∙ ap (without t) c.requires.stands.queue) c.in-Ok.ensures.left
    (c.in-Ok-cycle_at.ensures.cycles (tree_by leaves) (standing_at leaves.states events) refl run)

pub returns-in-Ok-cycle_at-clause-frame : goal.returns-in-Ok-cycle_at-clause-frame
returns-in-Ok-cycle_at-clause-frame g c =
    frame-left (tree_by c.args.parts.now.leaves) c.args.routes.now c.args.parts.now.watchers c.args.t c.args.events.now c.take_inputs.new.events
    (vec_capacity c.args.parts.now.work.due) (vec_capacity c.args.parts.now.work.moving) (vec_capacity c.cycle_at.new.work.due) (vec_capacity c.cycle_at.new.work.moving)
    c.requires.frame c.in-Ok.ensures.left (c.in-Ok-cycle_at.ensures.due_room ∙ c.take_due.ensures.capacity) (c.in-Ok-cycle_at.ensures.moving_room ∙ c.clear.ensures.capacity)

pub returns-in-Ok-cycle_at-clause-stands : goal.returns-in-Ok-cycle_at-clause-stands
returns-in-Ok-cycle_at-clause-stands g c =
    let leaves = c.args.parts.now.leaves in
    let events = c.args.events.now in
    let t = c.args.t in
    let waiting = g.Q.TimeQueue.waiting c.cycle_at.new.queue in
    let run = run-of (tree_by leaves) t leaves.states events c.args.routes.now c.args.parts.now.watchers (vec_capacity c.args.parts.now.work.due) (vec_capacity c.args.parts.now.work.moving) c.take_inputs.new.inputs.items c.requires.frame c.in-Ok.ensures.taken in
    let ran : RanTo t (parts_at leaves events t) events c.cycle_at.new.leaves.states waiting c.take_inputs.new.events c.cycle_at.new.records =
    runs-by-walk _ c.leaves_move_one_after_another.ensures.walk (tree_by leaves) t (standing_at leaves.states events) c.cycle_at.new.leaves.states
    (g.Q.TimeQueue.waiting c.take_due.new.queue) waiting c.take_inputs.new.events c.cycle_at.new.records (Ok c.in-Ok-cycle_at.field-0)
    c.requires.instant (c.take_due.ensures.left ∙ ap (without t) c.requires.stands.queue) c.in-Ok.ensures.left
    (c.in-Ok-cycle_at.ensures.cycles (tree_by leaves) (standing_at leaves.states events) refl run)
    in
    record {
      fits = ran-fits c.a_cycle_is_what_its_leaves_make_of_it.ensures.next c.records_name_what_there_is.ensures.cycles (tree_by leaves) t (standing_at leaves.states events)
          c.cycle_at.new.leaves.states waiting c.take_inputs.new.events c.cycle_at.new.records c.requires.stands.fits c.requires.instant ran;
      queue = ran.waiting_are;
      calm = c.empty.ensures ∙ ap (λ (n : ℕ). replicate n false) (c.in-Ok-cycle_at.ensures.long ∙ c.requires.frame.watching_is.long);
      at_rest = c.in-Ok-cycle_at.ensures.at_rest ∙ ap (λ (n : ℕ). replicate n false) c.requires.frame.watching_is.long;
    }

pub returns-in-Ok-cycle_at-clause-visits : goal.returns-in-Ok-cycle_at-clause-visits
returns-in-Ok-cycle_at-clause-visits g c =
    let leaves = c.args.parts.now.leaves in
    let events = c.args.events.now in
    let t = c.args.t in
    let moving = c.cycle_at.new.work.moving.items in
    let run = run-of (tree_by leaves) t leaves.states events c.args.routes.now c.args.parts.now.watchers (vec_capacity c.args.parts.now.work.due) (vec_capacity c.args.parts.now.work.moving) c.take_inputs.new.inputs.items c.requires.frame c.in-Ok.ensures.taken in
    counted c.cycle_at.new.steps c.args.steps.now (value_count (due_give t leaves.states)) (sum_by (visits_at leaves) moving) (visits_in (tree_by leaves) (parts_at leaves events t))
    c.in-Ok-cycle_at.ensures.visits
    (visits-within (tree_by leaves) t (standing_at leaves.states events) leaves moving c.moves_are_short.ensures (c.in-Ok-cycle_at.ensures.few (tree_by leaves) (standing_at leaves.states events) run))

pub returns-in_default-clause-runs : goal.returns-in_default-clause-runs
returns-in_default-clause-runs g c = memory-ends c.args.t _

pub returns-in_default-clause-frame : goal.returns-in_default-clause-frame
returns-in_default-clause-frame g c =
    let work = c.args.parts.now.work in
    frame-kept (tree_by c.args.parts.now.leaves) c.args.routes.now c.args.parts.now.watchers c.args.events.now c.take_inputs.new.events
    (vec_capacity work.due) (vec_capacity work.moving) (vec_capacity c.take_due.new.due) c.requires.frame c.in_default.ensures.err c.take_due.ensures.capacity

pub returns-in-Err-clause-runs : goal.returns-in-Err-clause-runs
returns-in-Err-clause-runs g c =
    let leaves = c.args.parts.now.leaves in
    let events = c.args.events.now in
    let t = c.args.t in
    let run = run-of (tree_by leaves) t leaves.states events c.args.routes.now c.args.parts.now.watchers (vec_capacity c.args.parts.now.work.due) (vec_capacity c.args.parts.now.work.moving) c.take_inputs.new.inputs.items c.requires.frame c.in-Ok.ensures.taken in
    runs-by-walk _ c.leaves_move_one_after_another.ensures.walk (tree_by leaves) t (standing_at leaves.states events) c.cycle_at.new.leaves.states
    (g.Q.TimeQueue.waiting c.take_due.new.queue) (g.Q.TimeQueue.waiting c.cycle_at.new.queue) c.take_inputs.new.events c.cycle_at.new.records (Err c.in-Err.stop)
    c.requires.instant (c.take_due.ensures.left ∙ ap (without t) c.requires.stands.queue) c.in-Ok.ensures.left
    (c.in-Err.ensures.cycles (tree_by leaves) (standing_at leaves.states events) refl run)

pub returns-in-Err-clause-frame : goal.returns-in-Err-clause-frame
returns-in-Err-clause-frame g c =
    frame-left (tree_by c.args.parts.now.leaves) c.args.routes.now c.args.parts.now.watchers c.args.t c.args.events.now c.take_inputs.new.events
    (vec_capacity c.args.parts.now.work.due) (vec_capacity c.args.parts.now.work.moving) (vec_capacity c.cycle_at.new.work.due) (vec_capacity c.cycle_at.new.work.moving)
    c.requires.frame c.in-Ok.ensures.left (c.in-Err.ensures.due_room ∙ c.take_due.ensures.capacity) (c.in-Err.ensures.moving_room ∙ c.clear.ensures.capacity)

pub returns-in-Err-clause-visits : goal.returns-in-Err-clause-visits
returns-in-Err-clause-visits g c =
    let leaves = c.args.parts.now.leaves in
    let events = c.args.events.now in
    let t = c.args.t in
    let moving = c.cycle_at.new.work.moving.items in
    let run = run-of (tree_by leaves) t leaves.states events c.args.routes.now c.args.parts.now.watchers (vec_capacity c.args.parts.now.work.due) (vec_capacity c.args.parts.now.work.moving) c.take_inputs.new.inputs.items c.requires.frame c.in-Ok.ensures.taken in
    counted c.cycle_at.new.steps c.args.steps.now (value_count (due_give t leaves.states)) (sum_by (visits_at leaves) moving) (visits_in (tree_by leaves) (parts_at leaves events t))
    c.in-Err.ensures.visits
    (visits-within (tree_by leaves) t (standing_at leaves.states events) leaves moving c.moves_are_short.ensures (c.in-Err.ensures.few (tree_by leaves) (standing_at leaves.states events) run))
