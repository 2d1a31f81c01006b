use Rattle.std.proofs.Common.{◌≡◌, ◌+◌, ◌<◌, ◌∙◌, ℕ, List, length, ap, sym, subst, arith}
use Rattle.std.specs.Prelude.{⊤, Vec}
use Rattle.std.specs.declared.alloc.Global.{Global}
use Rattle.std.specs.Vec.{vec_capacity}
use Rattle.std.specs.List.{All, sum_by}
use Rattle.std.proofs.lemmas.Result.{on_ok_weaker}
use Rattle.text_forms.specs.declared.records.Records.{Records}
use Rattle.text_forms.specs.declared.records.XRecord.{XRecord}
use Rattle.sparse_cycle.specs.Sparse.{cycle_parts}
use Rattle.sparse_cycle.specs.Walk.{Walked, leaf_walk}
use Rattle.cycle_steps.specs.Untimed.{x_records}
use Rattle.cycle_steps.specs.Gathering.{value_count}
use Rattle.cycle_steps.specs.Half.{due_give}
use Rattle.cycle_steps.specs.Moving.{stand_of, WalksTo}
use Rattle.cycle_steps.specs.Whole.{HasRecords}
use Rattle.cycle_steps.proofs.Halves.{x-untimed}
use Rattle.cycle_steps.proofs.Steps.{no-memory}
use Rattle.cycle_steps.proofs.Stops.{if-ok, visits-after, visits-before, none-few}
use Rattle.cycle_steps.proofs.cycle.cycle_at.Goals as goal

pub returns-clause-cycles : goal.returns-clause-cycles
returns-clause-cycles g c = λ tree s st run.
    let t = c.args.t in
    let p = cycle_parts tree t s in
    let half = c.in-Ok.ensures.parts tree s run in
    let waiting = g.Q.TimeQueue.waiting c.args.queue.now in
    let records : Records = record c.first_half.new.records { s = c.walk.new.records.s } in
    let fed : x_records c.first_half.new.records.x.items ≡ p.fed = ap x_records half.x_is ∙ x-untimed t p.fed in
    let touched : c.deref.result.now ≡ p.touched = c.deref.ensures.value ∙ half.touched_is in
    let has : HasRecords p t records = record { y_is = half.y_is; n_is = half.n_is; x_is = half.x_is; out_is = half.out_is } in
    record {
      walks = subst (λ (w : Walked). WalksTo t w (g.L.Leaves.states c.walk.new.movers) (g.Q.TimeQueue.waiting c.walk.new.queue) c.walk.new.records.s.items c.walk.result)
          (λ i. leaf_walk tree t p.given (fed i) (touched i) (stand_of (half.emitted_is i) waiting))
          (c.walk.ensures.walks tree p.given (c.in-Ok.ensures.stands tree st) (c.in-Ok.ensures.woken tree s run));
      records_are = on_ok_weaker c.walk.result (λ kept. subst (HasRecords p t) (sym c.walk.ensures.rest) has) (c.walk.ensures.stands tree (c.in-Ok.ensures.stands tree st));
    }

pub returns-clause-few : goal.returns-clause-few
returns-clause-few g c = λ tree s run.
    let half = c.in-Ok.ensures.parts tree s run in
    let same : length c.first_half.new.work.moving.items ≡ length (cycle_parts tree c.args.t s).touched = ap length half.touched_is in
    omega (arith, same)

pub first_half-requires-clause-due : goal.first_half-requires-clause-due
first_half-requires-clause-due g c = c.requires.due

pub first_half-requires-clause-count : goal.first_half-requires-clause-count
first_half-requires-clause-count g c = c.requires.count

pub first_half-requires-clause-paths : goal.first_half-requires-clause-paths
first_half-requires-clause-paths g c = c.requires.paths

pub first_half-requires-clause-order : goal.first_half-requires-clause-order
first_half-requires-clause-order g c = c.requires.order

pub first_half-requires-clause-calm : goal.first_half-requires-clause-calm
first_half-requires-clause-calm g c = c.requires.calm

pub first_half-requires-clause-at_rest : goal.first_half-requires-clause-at_rest
first_half-requires-clause-at_rest g c = c.requires.at_rest

pub first_half-requires-clause-records : goal.first_half-requires-clause-records
first_half-requires-clause-records g c = c.requires.records

pub first_half-requires-clause-moving : goal.first_half-requires-clause-moving
first_half-requires-clause-moving g c = c.requires.moving

pub first_half-requires-clause-capacity : goal.first_half-requires-clause-capacity
first_half-requires-clause-capacity g c = c.requires.capacity

pub walk-requires-clause-time : goal.walk-requires-clause-time
walk-requires-clause-time g c = c.requires.time

pub walk-requires-clause-touched : goal.walk-requires-clause-touched
walk-requires-clause-touched g c =
    let now = g.L.Leaves.states c.first_half.new.givers in
    subst (λ (ls : List ℕ). All (λ l. l < length now) ls) (sym c.deref.ensures.value)
    (subst (λ (n : ℕ). All (λ l. l < n) c.first_half.new.work.moving.items) (c.requires.count ∙ sym c.in-Ok.ensures.count) c.in-Ok.ensures.within)

pub walk-requires-clause-waiting : goal.walk-requires-clause-waiting
walk-requires-clause-waiting g c = c.requires.waiting ∙ c.requires.count ∙ sym c.in-Ok.ensures.count

pub walk-requires-clause-woken : goal.walk-requires-clause-woken
walk-requires-clause-woken g c = c.in-Ok.ensures.long ∙ c.requires.count ∙ sym c.in-Ok.ensures.count

pub walk-requires-clause-rise : goal.walk-requires-clause-rise
walk-requires-clause-rise g c = c.in-Ok.ensures.x_rise

pub walk-requires-clause-ports : goal.walk-requires-clause-ports
walk-requires-clause-ports g c =
    subst (λ (ports : ℕ → ℕ). All (λ (r : XRecord). r.port.0 < ports r.leaf) c.first_half.new.records.x.items) (sym c.in-Ok.ensures.ports) c.in-Ok.ensures.x_ports

pub walk-requires-clause-empty : goal.walk-requires-clause-empty
walk-requires-clause-empty g c = c.first_half.ensures.s

pub returns-clause-stands : goal.returns-clause-stands
returns-clause-stands g c = λ tree st. c.walk.ensures.stands tree (c.in-Ok.ensures.stands tree st)

pub returns-clause-kept : goal.returns-clause-kept
returns-clause-kept g c = c.walk.ensures.kept ∙ c.first_half.ensures.kept

pub returns-clause-due_room : goal.returns-clause-due_room
returns-clause-due_room g c = ap (λ (v : Vec ℕ Global). vec_capacity v) c.first_half.ensures.due

pub returns-clause-moving_room : goal.returns-clause-moving_room
returns-clause-moving_room g c = c.first_half.ensures.capacity

pub returns-clause-long : goal.returns-clause-long
returns-clause-long g c = if-ok c.walk.result c.in-Ok.ensures.long

pub returns-clause-at_rest : goal.returns-clause-at_rest
returns-clause-at_rest g c = if-ok c.walk.result c.in-Ok.ensures.at_rest

pub returns-clause-visits : goal.returns-clause-visits
returns-clause-visits g c =
    let now = c.first_half.new.givers in
    visits-after (g.L.Leaves.visits c.args.steps.now) (g.L.Leaves.visits c.first_half.new.steps) (g.L.Leaves.visits c.walk.new.steps) (value_count (due_give c.args.t (g.L.Leaves.states c.args.leaves.now)))
    (g.L.Leaves.most c.args.leaves.now) (g.L.Leaves.most now) c.first_half.new.work.moving.items c.deref.result.now
    c.first_half.ensures.visits c.walk.ensures.visits c.in-Ok.ensures.most c.deref.ensures.value

pub returns-in_default-clause-kept : goal.returns-in_default-clause-kept
returns-in_default-clause-kept g c = c.first_half.ensures.kept

pub returns-in_default-clause-due_room : goal.returns-in_default-clause-due_room
returns-in_default-clause-due_room g c = ap (λ (v : Vec ℕ Global). vec_capacity v) c.first_half.ensures.due

pub returns-in_default-clause-moving_room : goal.returns-in_default-clause-moving_room
returns-in_default-clause-moving_room g c = c.first_half.ensures.capacity

pub returns-in_default-clause-visits : goal.returns-in_default-clause-visits
returns-in_default-clause-visits g c =
    visits-before (g.L.Leaves.visits c.first_half.new.steps) (g.L.Leaves.visits c.args.steps.now + value_count (due_give c.args.t (g.L.Leaves.states c.args.leaves.now))) (sum_by (g.L.Leaves.most c.args.leaves.now) c.first_half.new.work.moving.items) c.first_half.ensures.visits

pub returns-in_default-clause-few : goal.returns-in_default-clause-few
returns-in_default-clause-few g c = λ tree s run.
    none-few c.first_half.new.work.moving.items (cycle_parts tree c.args.t s).touched c.in_default.ensures.none

pub returns-in_default-clause-cycles : goal.returns-in_default-clause-cycles
returns-in_default-clause-cycles g c = λ tree s st run.
    let p = cycle_parts tree c.args.t s in
    record {
      walks = no-memory tree c.args.t p.given p.fed ⊤ (leaf_walk tree c.args.t p.given p.fed p.touched (stand_of p.emitted (g.Q.TimeQueue.waiting c.args.queue.now))) (g.L.Leaves.states c.first_half.new.givers) (g.Q.TimeQueue.waiting c.args.queue.now) c.first_half.new.records.s.items;
      records_are = tt;
    }
