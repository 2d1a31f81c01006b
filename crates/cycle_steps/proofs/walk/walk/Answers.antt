use Rattle.std.proofs.Common.{◌∙◌, ◌<◌, ◌≤◌, ◌+◌, ℕ, List, refl, ap, drop, slice_index_or, subst, sym}
use Rattle.std.specs.Prelude.{Ok, Err}
use Rattle.std.specs.List.{All, sum_by}
use Rattle.std.specs.List.Sorted.{IsNonDecreasingBy}
use Rattle.model_tree.specs.Tree.{Tree}
use Rattle.run_model.specs.Run.{PortRecord}
use Rattle.text_forms.specs.declared.records.XRecord.{XRecord}
use Rattle.text_forms.specs.declared.records.Records.{Records}
use Rattle.cycle_steps.specs.Untimed.{x_records}
use Rattle.cycle_steps.proofs.Steps.{fed-same, walk_from, walks-more, stops-here, walked-all, at-start, visits-more, visits-end, visits-within}
use Rattle.cycle_steps.proofs.Gathered.{same-bound}
use Rattle.cycle_steps.proofs.walk.walk.Goals as goal

pub loop-leaf-preserved : goal.loop-leaf-preserved
loop-leaf-preserved g c =
    let ls = c.args.touched.now in
    let i = c.loop-leaf.leaf-index in
    let l = slice_index_or ls i 0 in
    let fed = x_records c.args.records.now.x.items in
    let start = c.args.movers.now in
    let old = c.loop-leaf.movers in
    let new = c.move_and_note.new.movers in
    let waiting = g.Q.TimeQueue.waiting in
    let states = g.M.Leaves.states in
    let inv = c.loop-leaf.invariant in
    record {
      long = c.in-Ok.ensures.long ∙ inv.long;
      waiting = c.in-Ok.ensures.waiting ∙ inv.waiting;
      kept = c.move_and_note.ensures.kept ∙ inv.kept;
      ports = c.in-Ok.ensures.ports ∙ inv.ports;
      most = c.in-Ok.ensures.most ∙ inv.most;
      stands = λ tree st. c.in-Ok.ensures.stands tree (inv.stands tree st);
      walks = λ tree given st woken.
          walks-more tree c.args.t given fed (Unit {0}) i ls (walk_from tree c.args.t given fed ls (states start) (waiting c.args.queue.now)) (states old) (states new) (waiting c.loop-leaf.queue) (waiting c.move_and_note.new.queue)
          c.loop-leaf.records.s.items c.move_and_note.new.records.s.items _ c.loop-leaf-test.true (inv.walks tree given st woken) (fed-same (Unit {0}) tree c.args.t given (states old) (states new) (waiting c.loop-leaf.queue) (waiting c.move_and_note.new.queue) c.loop-leaf.records.s.items c.move_and_note.new.records.s.items l (Ok tt)
          c.loop-leaf.records.x.items c.args.records.now.x.items (ap (λ (r : Records). r.x.items) inv.rest) (c.in-Ok.ensures.steps tree given (inv.stands tree st) (woken l)));
      rest = c.move_and_note.ensures.rest ∙ ap (λ (r : Records). record r { s = c.move_and_note.new.records.s }) inv.rest;
      visits = visits-more (g.M.Leaves.most start) i ls (g.M.Leaves.visits c.loop-leaf.steps) (g.M.Leaves.visits c.move_and_note.new.steps) _ c.loop-leaf-test.true inv.visits
          (subst (λ (m : ℕ → ℕ). g.M.Leaves.visits c.move_and_note.new.steps ≤ g.M.Leaves.visits c.loop-leaf.steps + m l) inv.most c.move_and_note.ensures.visits);
    }

pub returns-in-Err-clause-walks : goal.returns-in-Err-clause-walks
returns-in-Err-clause-walks g c =
    let ls = c.args.touched.now in
    let i = c.loop-leaf.leaf-index in
    let l = slice_index_or ls i 0 in
    let fed = x_records c.args.records.now.x.items in
    let waiting = g.Q.TimeQueue.waiting in
    let states = g.M.Leaves.states in
    let inv = c.loop-leaf.invariant in
    λ tree given st woken.
    stops-here tree c.args.t given fed (Unit {0}) i ls (walk_from tree c.args.t given fed ls (states c.args.movers.now) (waiting c.args.queue.now)) (states c.loop-leaf.movers) (states c.move_and_note.new.movers) (waiting c.loop-leaf.queue) (waiting c.move_and_note.new.queue)
    c.loop-leaf.records.s.items c.move_and_note.new.records.s.items c.in-Err.stop c.loop-leaf-test.true (inv.walks tree given st woken) (fed-same (Unit {0}) tree c.args.t given (states c.loop-leaf.movers) (states c.move_and_note.new.movers) (waiting c.loop-leaf.queue) (waiting c.move_and_note.new.queue) c.loop-leaf.records.s.items c.move_and_note.new.records.s.items l (Err c.in-Err.stop)
    c.loop-leaf.records.x.items c.args.records.now.x.items (ap (λ (r : Records). r.x.items) inv.rest) (c.in-Err.ensures.steps tree given (inv.stands tree st) (woken l)))

pub move_and_note-requires-clause-within : goal.move_and_note-requires-clause-within
move_and_note-requires-clause-within g c =
    let l = slice_index_or c.args.touched.now c.loop-leaf.leaf-index 0 in
    subst (λ (n : ℕ). l < n) (sym c.loop-leaf.invariant.long) (c.requires.touched c.loop-leaf.leaf-index 0 c.loop-leaf-test.true)

pub move_and_note-requires-clause-waiting : goal.move_and_note-requires-clause-waiting
move_and_note-requires-clause-waiting g c =
    let l = slice_index_or c.args.touched.now c.loop-leaf.leaf-index 0 in
    subst (λ (n : ℕ). l < n) (sym c.loop-leaf.invariant.waiting) (c.requires.touched c.loop-leaf.leaf-index 0 c.loop-leaf-test.true)

pub move_and_note-requires-clause-woken : goal.move_and_note-requires-clause-woken
move_and_note-requires-clause-woken g c =
    let l = slice_index_or c.args.touched.now c.loop-leaf.leaf-index 0 in
    subst (λ (n : ℕ). l < n) (sym c.requires.woken) (c.requires.touched c.loop-leaf.leaf-index 0 c.loop-leaf-test.true)

pub move_and_note-requires-clause-ports : goal.move_and_note-requires-clause-ports
move_and_note-requires-clause-ports g c =
    subst (λ (xs : List XRecord). All (λ (r : XRecord). r.port.0 < g.M.Leaves.ports c.loop-leaf.movers r.leaf) xs) (sym (ap (λ (r : Records). r.x.items) c.loop-leaf.invariant.rest))
    (subst (λ (ports : ℕ → ℕ). All (λ (r : XRecord). r.port.0 < ports r.leaf) c.args.records.now.x.items) (sym c.loop-leaf.invariant.ports) c.requires.ports)

pub returns-in-Err-clause-visits : goal.returns-in-Err-clause-visits
returns-in-Err-clause-visits g c =
    let most = g.M.Leaves.most c.args.movers.now in
    let inv = c.loop-leaf.invariant in
    let l = slice_index_or c.args.touched.now c.loop-leaf.leaf-index 0 in
    visits-end most c.loop-leaf.leaf-index c.args.touched.now (g.M.Leaves.visits c.loop-leaf.steps) (g.M.Leaves.visits c.move_and_note.new.steps) _ c.loop-leaf-test.true inv.visits
    (subst (λ (m : ℕ → ℕ). g.M.Leaves.visits c.move_and_note.new.steps ≤ g.M.Leaves.visits c.loop-leaf.steps + m l) inv.most c.move_and_note.ensures.visits)

pub returns-clause-walks : goal.returns-clause-walks
returns-clause-walks g c = λ tree given st woken.
    let ls = c.args.touched.now in
    let fed = x_records c.args.records.now.x.items in
    let waiting = g.Q.TimeQueue.waiting in
    let states = g.M.Leaves.states in
    walked-all tree c.args.t given fed (Unit {0}) c.loop-leaf.leaf-index ls (walk_from tree c.args.t given fed ls (states c.args.movers.now) (waiting c.args.queue.now)) (states c.loop-leaf.movers) (waiting c.loop-leaf.queue) c.loop-leaf.records.s.items tt
    c.loop-leaf-test.false (c.loop-leaf.invariant.walks tree given st woken)

pub returns-clause-visits : goal.returns-clause-visits
returns-clause-visits g c =
    visits-within (g.M.Leaves.visits c.loop-leaf.steps) (sum_by (g.M.Leaves.most c.args.movers.now) (drop c.loop-leaf.leaf-index c.args.touched.now)) _ c.loop-leaf.invariant.visits

pub move_and_note-requires-clause-time : goal.move_and_note-requires-clause-time
move_and_note-requires-clause-time g c = c.requires.time

pub move_and_note-requires-clause-rise : goal.move_and_note-requires-clause-rise
move_and_note-requires-clause-rise g c =
    subst (IsNonDecreasingBy (λ (r : XRecord). r.leaf)) (sym (ap (λ (r : Records). r.x.items) c.loop-leaf.invariant.rest)) c.requires.rise

pub returns-in-Err-clause-rest : goal.returns-in-Err-clause-rest
returns-in-Err-clause-rest g c = c.move_and_note.ensures.rest ∙ ap (λ (r : Records). record r { s = c.move_and_note.new.records.s }) c.loop-leaf.invariant.rest

pub returns-clause-rest : goal.returns-clause-rest
returns-clause-rest g c = c.loop-leaf.invariant.rest

pub returns-in-Err-clause-kept : goal.returns-in-Err-clause-kept
returns-in-Err-clause-kept g c = c.move_and_note.ensures.kept ∙ c.loop-leaf.invariant.kept

pub returns-clause-kept : goal.returns-clause-kept
returns-clause-kept g c = c.loop-leaf.invariant.kept

pub returns-clause-stands : goal.returns-clause-stands
returns-clause-stands g c = λ tree st. c.loop-leaf.invariant.stands tree st

pub loop-leaf-init : goal.loop-leaf-init
loop-leaf-init g c =
    let all = λ (tree : Tree) (given : List PortRecord). walk_from tree c.args.t given (x_records c.args.records.now.x.items) c.args.touched.now (g.M.Leaves.states c.args.movers.now) (g.Q.TimeQueue.waiting c.args.queue.now) in
    record {
      long = refl;
      waiting = c.requires.waiting;
      kept = refl;
      ports = refl;
      most = refl;
      stands = λ tree st. st;
      walks = λ tree given st woken. at-start tree c.args.t given (x_records c.args.records.now.x.items) (all tree given) c.make_room.new.list.items (c.make_room.ensures ∙ c.requires.empty);
      rest = refl;
      visits = same-bound (g.M.Leaves.visits c.args.steps.now + sum_by (g.M.Leaves.most c.args.movers.now) c.args.touched.now);
    }
