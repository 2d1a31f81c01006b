use Rattle.std.proofs.Common.{◌≡◌, ◌∙◌, ◌<◌, ◌≤◌, ◌||◌, List, ℕ, false, map, length, replicate, ap, sym, subst}
use Rattle.std.specs.List.{All}
use Rattle.std.specs.List.Sorted.{IsNonDecreasingBy}
use Rattle.std.specs.Prelude.{Vec}
use Rattle.std.specs.declared.alloc.Global.{Global}
use Rattle.std.specs.Vec.{vec_capacity}
use Rattle.text_forms.specs.declared.records.XRecord.{XRecord}
use Rattle.text_forms.specs.declared.records.YRecord.{YRecord}
use Rattle.text_forms.specs.declared.records.Records.{Records}
use Rattle.text_forms.specs.Held.{x_at, out_at}
use Rattle.leaf_set.specs.Members.{is_in}
use Rattle.sparse_cycle.specs.Sparse.{is_due, due_leaves, given_among}
use Rattle.quantity.specs.Bytes.{has_number}
use Rattle.sparse_cycle.specs.Collect.{y_of}
use Rattle.sparse_cycle.specs.Wake.{is_fed, reached_leaves}
use Rattle.cycle_steps.specs.Untimed.{y_records, x_records}
use Rattle.cycle_steps.specs.Routed.{path_at, numbers, reaches, values_at, fed_in, out_in}
use Rattle.cycle_steps.proofs.Halves.{timed-rise, filtered-within, fed-within, emitted-long, woken-is, half-is}
use Rattle.cycle_steps.proofs.Rising.{fed-rises}
use Rattle.cycle_steps.proofs.Stops.{stopped, if-err}
use Rattle.cycle_steps.proofs.half.first_half.Goals as goal

items-same : {A : Type 0} {v w : Vec A Global} → v ≡ w → v.items ≡ w.items
items-same {A} e = ap (λ (x : Vec A Global). x.items) e

pub route-requires-clause-rise : goal.route-requires-clause-rise
route-requires-clause-rise g c =
    let states = g.G.Leaves.states c.args.givers.now in
    subst (IsNonDecreasingBy (λ (r : YRecord). r.leaf)) (sym (c.deref.ensures.value ∙ c.in_ok-emit_and_wake.ensures.collected.y_is))
    (timed-rise c.args.t (y_of (given_among c.args.t states (due_leaves c.args.t states))) (c.records_show_what_is_given.ensures.y_rises c.args.t states))

pub touch-requires-clause-due : goal.touch-requires-clause-due
touch-requires-clause-due g c =
    let states = g.G.Leaves.states c.args.givers.now in
    let marked = g.S.LeafSet.members c.emit_and_wake.new.work.touched in
    subst (λ (ls : List ℕ). All (λ l. l < length marked) ls) (sym (c.deref-3.ensures.value ∙ items-same c.emit_and_wake.ensures.due ∙ c.requires.due))
    (subst (λ (m : ℕ). All (λ l. l < m) (due_leaves c.args.t states)) (sym (c.in_ok-emit_and_wake.ensures.touched_long ∙ c.requires.count)) (filtered-within (is_due c.args.t states) (length states)))

pub touch-requires-clause-fed : goal.touch-requires-clause-fed
touch-requires-clause-fed g c =
    let marked = g.S.LeafSet.members c.emit_and_wake.new.work.touched in
    let ps = g.R.Routing.paths c.args.routes.now in
    let y = y_records c.deref.result.now in
    let from = values_at y c.deref-2.result.now in
    let ks = numbers (reaches y c.deref-2.result.now) ps in
    subst (λ (rs : List XRecord). All (λ (r : XRecord). r.leaf < length marked) rs) (sym (c.deref-4.ensures.value ∙ c.in_ok-route.ensures.x))
    (subst (λ (m : ℕ). All (λ (r : XRecord). r.leaf < m) (map (x_at c.args.t) (fed_in from ps ks))) (sym c.in_ok-emit_and_wake.ensures.touched_long)
    (fed-within c.args.t (g.W.Watched.count c.args.watched.now) (g.G.Leaves.ports c.args.givers.now) from ps ks c.requires.paths (filtered-within (λ k. reaches y c.deref-2.result.now (path_at ps k)) (length ps))).0)

pub returns-clause-x_rise : goal.returns-clause-x_rise
returns-clause-x_rise g c =
    let ps = g.R.Routing.paths c.args.routes.now in
    let y = y_records c.deref.result.now in
    subst (IsNonDecreasingBy (λ (r : XRecord). r.leaf)) (sym c.in_ok-route.ensures.x)
    (fed-rises c.args.t (values_at y c.deref-2.result.now) (reaches y c.deref-2.result.now) ps c.requires.order)

pub returns-clause-x_ports : goal.returns-clause-x_ports
returns-clause-x_ports g c =
    let ps = g.R.Routing.paths c.args.routes.now in
    let y = y_records c.deref.result.now in
    let from = values_at y c.deref-2.result.now in
    let ks = numbers (reaches y c.deref-2.result.now) ps in
    let ports = g.G.Leaves.ports c.args.givers.now in
    subst (λ (rs : List XRecord). All (λ (r : XRecord). r.port.0 < ports r.leaf) rs) (sym c.in_ok-route.ensures.x)
    (fed-within c.args.t (g.W.Watched.count c.args.watched.now) ports from ps ks c.requires.paths (filtered-within (λ k. reaches y c.deref-2.result.now (path_at ps k)) (length ps))).1

pub returns-clause-within : goal.returns-clause-within
returns-clause-within g c =
    let marked = g.S.LeafSet.members c.emit_and_wake.new.work.touched in
    let fed = x_records c.deref-4.result.now in
    let due = c.deref-3.result.now in
    subst (λ (ls : List ℕ). All (λ l. l < g.W.Watched.count c.args.watched.now) ls) (sym c.touch.ensures.taken)
    (subst (λ (m : ℕ). All (λ l. l < m) (reached_leaves (is_in marked) (length marked) due fed)) c.in_ok-emit_and_wake.ensures.touched_long
    (filtered-within (λ k. is_in marked k || has_number due k || is_fed fed k) (length marked)))

pub returns-clause-count : goal.returns-clause-count
returns-clause-count g c =
    let states = g.G.Leaves.states c.args.givers.now in
    ap length c.in_ok-emit_and_wake.ensures.collected.states_is ∙ emitted-long c.args.t (due_leaves c.args.t states) states

pub returns-clause-parts : goal.returns-clause-parts
returns-clause-parts g c = λ tree s run.
    let states = g.G.Leaves.states c.args.givers.now in
    let marked = g.S.LeafSet.members c.emit_and_wake.new.work.touched in
    let ps = g.R.Routing.paths c.args.routes.now in
    let t = c.args.t in
    let inputs = c.args.work.now.inputs.items in
    let now = c.deref-2.result.now in
    let same : now ≡ inputs = c.deref-2.ensures.value ∙ items-same c.emit_and_wake.ensures.inputs in
    let ys = y_records c.emit_and_wake.new.records.y.items in
    let records : Records = record { y = c.emit_and_wake.new.records.y; n = c.emit_and_wake.new.records.n; x = c.route.new.x; s = c.emit_and_wake.new.records.s; out = c.route.new.out } in
    half-is c.cells_are_woken_by_givers.ensures.woken c.leaves_give_one_after_another.ensures.givers c.cells_are_woken_by_givers.ensures.touched c.records_show_what_is_given.ensures.shows c.events_stand_by_number.ensures.inputs
    tree t s states (g.G.Leaves.states c.emit_and_wake.new.givers) inputs ps (g.W.Watched.watches c.args.watched.now)
    records c.emit_and_wake.new.work.scratch.givers.items c.deref-3.result.now c.touch.new.into.items marked
    run (c.deref-3.ensures.value ∙ items-same c.emit_and_wake.ensures.due ∙ c.requires.due) c.in_ok-emit_and_wake.ensures.collected
    (c.in_ok-route.ensures.x ∙ ap (λ rs. map (x_at t) (fed_in (values_at (y_records rs) now) ps (numbers (reaches (y_records rs) now) ps))) c.deref.ensures.value
    ∙ ap (λ ins. map (x_at t) (fed_in (values_at ys ins) ps (numbers (reaches ys ins) ps))) same)
    (c.in_ok-route.ensures.out ∙ ap (λ rs. map (out_at t) (out_in (values_at (y_records rs) now) ps (numbers (reaches (y_records rs) now) ps))) c.deref.ensures.value
    ∙ ap (λ ins. map (out_at t) (out_in (values_at ys ins) ps (numbers (reaches ys ins) ps))) same)
    c.in_ok-emit_and_wake.ensures.touched (c.in_ok-emit_and_wake.ensures.touched_long ∙ c.requires.count)
    (c.touch.ensures.taken ∙ ap (λ xs. reached_leaves (is_in marked) (length marked) c.deref-3.result.now (x_records xs)) c.deref-4.ensures.value)

pub returns-clause-woken : goal.returns-clause-woken
returns-clause-woken g c = λ tree s run k.
    let states = g.G.Leaves.states c.args.givers.now in
    c.in_ok-emit_and_wake.ensures.woken k
    ∙ woken-is c.cells_are_woken_by_givers.ensures.woken c.leaves_give_one_after_another.ensures.givers tree c.args.t s states (g.W.Watched.watches c.args.watched.now) run.states_are run.watch k

pub emit_and_wake-requires-clause-due : goal.emit_and_wake-requires-clause-due
emit_and_wake-requires-clause-due g c = c.requires.due

pub emit_and_wake-requires-clause-y : goal.emit_and_wake-requires-clause-y
emit_and_wake-requires-clause-y g c = c.requires.records.y

pub emit_and_wake-requires-clause-n : goal.emit_and_wake-requires-clause-n
emit_and_wake-requires-clause-n g c = c.requires.records.n

pub emit_and_wake-requires-clause-who : goal.emit_and_wake-requires-clause-who
emit_and_wake-requires-clause-who g c = c.clear.ensures.givers

pub emit_and_wake-requires-clause-calm : goal.emit_and_wake-requires-clause-calm
emit_and_wake-requires-clause-calm g c = c.requires.calm

pub emit_and_wake-requires-clause-at_rest : goal.emit_and_wake-requires-clause-at_rest
emit_and_wake-requires-clause-at_rest g c = c.requires.at_rest

pub route-requires-clause-found : goal.route-requires-clause-found
route-requires-clause-found g c = items-same c.emit_and_wake.ensures.numbers ∙ c.clear.ensures.numbers

pub route-requires-clause-x : goal.route-requires-clause-x
route-requires-clause-x g c = ap (λ (r : Records). r.x.items) c.emit_and_wake.ensures.rest ∙ c.requires.records.x

pub route-requires-clause-out : goal.route-requires-clause-out
route-requires-clause-out g c = ap (λ (r : Records). r.out.items) c.emit_and_wake.ensures.rest ∙ c.requires.records.out

pub touch-requires-clause-empty : goal.touch-requires-clause-empty
touch-requires-clause-empty g c = items-same c.emit_and_wake.ensures.moving ∙ c.requires.moving

pub touch-requires-clause-room : goal.touch-requires-clause-room
touch-requires-clause-room g c =
    subst (λ (n : ℕ). n ≤ vec_capacity c.emit_and_wake.new.work.moving) (sym c.in_ok-emit_and_wake.ensures.touched_long)
    (subst (λ (v : Vec ℕ Global). g.W.Watched.count c.args.watched.now ≤ vec_capacity v) (sym c.emit_and_wake.ensures.moving) c.requires.capacity)

pub returns-clause-long : goal.returns-clause-long
returns-clause-long g c = c.in_ok-emit_and_wake.ensures.long

pub returns-clause-at_rest : goal.returns-clause-at_rest
returns-clause-at_rest g c = c.touch.ensures.left ∙ ap (λ n. replicate n false) c.in_ok-emit_and_wake.ensures.touched_long

pub returns-clause-s : goal.returns-clause-s
returns-clause-s g c = ap (λ (r : Records). r.s.items) c.emit_and_wake.ensures.rest ∙ c.requires.records.s

pub returns-clause-due : goal.returns-clause-due
returns-clause-due g c = c.emit_and_wake.ensures.due

pub returns-clause-capacity : goal.returns-clause-capacity
returns-clause-capacity g c = c.touch.ensures.capacity ∙ ap (λ (v : Vec ℕ Global). vec_capacity v) c.emit_and_wake.ensures.moving

pub returns-clause-stands : goal.returns-clause-stands
returns-clause-stands g c = λ tree st. c.in_ok-emit_and_wake.ensures.stands tree st

pub returns-clause-kept : goal.returns-clause-kept
returns-clause-kept g c = c.emit_and_wake.ensures.kept

pub returns-clause-ports : goal.returns-clause-ports
returns-clause-ports g c = c.in_ok-emit_and_wake.ensures.ports

pub returns-clause-most : goal.returns-clause-most
returns-clause-most g c = c.in_ok-emit_and_wake.ensures.most

pub returns-clause-visits : goal.returns-clause-visits
returns-clause-visits g c = c.emit_and_wake.ensures.visits

-- all that is so where memory ends in giving
pub returns-in_err-emit_and_wake : goal.returns-in_err-emit_and_wake
returns-in_err-emit_and_wake g c =
    let end = c.from_residual.result in
    let is = c.from_residual.ensures.0 in
    record {
      parts = stopped _ end is;
      woken = stopped _ end is;
      long = stopped _ end is;
      at_rest = stopped _ end is;
      s = ap (λ (r : Records). r.s.items) c.emit_and_wake.ensures.rest ∙ c.requires.records.s;
      due = c.emit_and_wake.ensures.due;
      capacity = ap (λ (v : Vec ℕ Global). vec_capacity v) c.emit_and_wake.ensures.moving;
      count = stopped _ end is;
      within = stopped _ end is;
      none = if-err end (items-same c.emit_and_wake.ensures.moving ∙ c.requires.moving);
      x_rise = stopped _ end is;
      x_ports = stopped _ end is;
      stands = λ tree st. stopped _ end is;
      kept = c.emit_and_wake.ensures.kept;
      ports = stopped _ end is;
      most = stopped _ end is;
      visits = c.emit_and_wake.ensures.visits;
    }

-- all that is so where memory ends in routing
pub returns-in_err-route : goal.returns-in_err-route
returns-in_err-route g c =
    let end = c.from_residual-in_err-route.result in
    let is = c.from_residual-in_err-route.ensures.0 in
    record {
      parts = stopped _ end is;
      woken = stopped _ end is;
      long = stopped _ end is;
      at_rest = stopped _ end is;
      s = ap (λ (r : Records). r.s.items) c.emit_and_wake.ensures.rest ∙ c.requires.records.s;
      due = c.emit_and_wake.ensures.due;
      capacity = ap (λ (v : Vec ℕ Global). vec_capacity v) c.emit_and_wake.ensures.moving;
      count = stopped _ end is;
      within = stopped _ end is;
      none = if-err end (items-same c.emit_and_wake.ensures.moving ∙ c.requires.moving);
      x_rise = stopped _ end is;
      x_ports = stopped _ end is;
      stands = λ tree st. stopped _ end is;
      kept = c.emit_and_wake.ensures.kept;
      ports = stopped _ end is;
      most = stopped _ end is;
      visits = c.emit_and_wake.ensures.visits;
    }
