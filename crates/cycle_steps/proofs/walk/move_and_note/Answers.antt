use Rattle.std.proofs.Common.{◌≡◌, ◌∙◌, ◌<◌, ℕ, List, Result, length, length-set, ap, refl, sym, subst}
use Rattle.std.specs.Prelude.{⊤, Ok, Err, slice_get}
use Rattle.std.specs.List.{All}
use Rattle.std.specs.List.Sorted.{IsNonDecreasingBy}
use Rattle.quantity.specs.declared.value.Value.{Value}
use Rattle.atomic_face.specs.declared.class.PortNo.{PortNo}
use Rattle.atomic_face.specs.Classes.{Bag}
use Rattle.text_forms.specs.declared.records.XRecord.{XRecord}
use Rattle.cycle_steps.proofs.Bags.{bag-ports}
use Rattle.model_tree.specs.Tree.{leaves}
use Rattle.run_model.specs.Cycle.{Moved}
use Rattle.sparse_cycle.specs.Sparse.{leaf_of, move_at, move_to, bag_in}
use Rattle.run_model.specs.declared.stop.Stop.{Stop}
use Rattle.cycle_steps.specs.Untimed.{x_records}
use Rattle.cycle_steps.specs.Moving.{Moves}
use Rattle.cycle_steps.specs.Stepping.{StepsOne}
use Rattle.cycle_steps.proofs.Gathered.{same-bound}
use Rattle.cycle_steps.proofs.Stops.{visits-before}
use Rattle.cycle_steps.proofs.Steps.{step-moves, step-memory, step-stops}
use Rattle.cycle_steps.proofs.walk.move_and_note.Goals as goal

-- the bag of a leaf, of the records that the slice lends
bag-is : (l : ℕ) {bag : Bag} {xs ys : List XRecord} → bag ≡ bag_in (x_records xs) l → xs ≡ ys → bag ≡ bag_in (x_records ys) l
bag-is l bag same = bag ∙ ap (λ rs. bag_in (x_records rs) l) same

pub make_move-requires-clause-ports : goal.make_move-requires-clause-ports
make_move-requires-clause-ports g c =
    let ports = g.M.Leaves.ports c.args.movers.now in
    subst (λ (bag : Bag). All (λ (o : PortNo × Value). o.0.0 < ports c.args.leaf) bag) (sym (c.deref-2.ensures.value ∙ bag-is c.args.leaf c.in-Ok.ensures.ok c.deref.ensures.value))
    (bag-ports ports c.args.leaf c.args.records.now.x.items c.requires.ports)

pub make_move-requires-clause-within : goal.make_move-requires-clause-within
make_move-requires-clause-within g c = c.requires.within

pub make_move-requires-clause-time : goal.make_move-requires-clause-time
make_move-requires-clause-time g c = c.requires.time

pub bag_at-requires-clause-rise : goal.bag_at-requires-clause-rise
bag_at-requires-clause-rise g c =
    subst (IsNonDecreasingBy (λ (r : XRecord). r.leaf)) (sym c.deref.ensures.value) c.requires.rise

pub bag_at-requires-clause-empty : goal.bag_at-requires-clause-empty
bag_at-requires-clause-empty g c = c.clear.ensures.items

pub has-requires : goal.has-requires
has-requires g c = c.requires.woken

pub note-requires : goal.note-requires
note-requires g c = c.requires.waiting

-- no memory for the leaf's bag
pub returns-in_default : goal.returns-in_default
returns-in_default g c =
    let states = g.M.Leaves.states c.args.movers.now in
    let waiting = g.Q.TimeQueue.waiting c.args.queue.now in
    record {
      steps = λ tree given st woken. step-memory ⊤ c.args.t c.args.leaf states states waiting waiting c.args.records.now.s.items c.args.records.now.s.items (move_at tree c.args.t states given (x_records c.args.records.now.x.items) c.args.leaf);
      stands = λ tree st. tt;
      rest = refl;
      kept = refl;
      long = tt;
      waiting = tt;
      ports = tt;
      most = tt;
      visits = visits-before (g.M.Leaves.visits c.args.steps.now) (g.M.Leaves.visits c.args.steps.now) (g.M.Leaves.most c.args.movers.now c.args.leaf) (same-bound (g.M.Leaves.visits c.args.steps.now));
    }

-- no memory for its S record
pub returns-in_default-note : goal.returns-in_default-note
returns-in_default-note g c =
    let states = g.M.Leaves.states in
    let waiting = g.Q.TimeQueue.waiting in
    record {
      steps = λ tree given st woken. step-memory ⊤ c.args.t c.args.leaf (states c.args.movers.now) (states c.make_move.new.self) (waiting c.args.queue.now) (waiting c.note.new.queue) c.args.records.now.s.items c.note.new.s.items
          (move_at tree c.args.t (states c.args.movers.now) given (x_records c.args.records.now.x.items) c.args.leaf);
      stands = λ tree st. tt;
      rest = refl;
      kept = c.make_move.ensures.kept;
      long = tt;
      waiting = tt;
      ports = tt;
      most = tt;
      visits = c.make_move.ensures.visits;
    }

-- the leaf has moved
pub returns-in-Ok-note : goal.returns-in-Ok-note
returns-in-Ok-note g c =
    let t = c.args.t in
    let l = c.args.leaf in
    let old = g.M.Leaves.states c.args.movers.now in
    let new = g.M.Leaves.states c.make_move.new.self in
    let waiting = g.Q.TimeQueue.waiting c.args.queue.now in
    let told = c.in-Ok-make_move.told in
    record {
      steps = λ tree given st woken.
          step-moves ⊤ t l old new waiting (g.Q.TimeQueue.waiting c.note.new.queue) c.args.records.now.s.items c.note.new.s.items told (move_at tree t old given (x_records c.args.records.now.x.items) l) tt
          (subst (λ (m : Moved). Moves old new l m (Ok told))
          (λ i. move_to t old ((c.has.ensures ∙ woken) i) ((c.deref-2.ensures.value ∙ bag-is c.args.leaf c.in-Ok.ensures.ok c.deref.ensures.value) i) (slice_get (leaves tree) l) (leaf_of old l)) (c.in-Ok-make_move.ensures.moves tree st))
          c.note.ensures.waiting c.in-Ok-note.ensures.record;
      stands = λ tree st. c.in-Ok-make_move.ensures.stands tree st;
      rest = refl;
      kept = c.make_move.ensures.kept;
      long = c.in-Ok-make_move.ensures.long;
      waiting = ap length c.note.ensures.waiting ∙ length-set waiting l told.next;
      ports = c.in-Ok-make_move.ensures.ports;
      most = c.in-Ok-make_move.ensures.most;
      visits = c.make_move.ensures.visits;
    }

-- the leaf has stopped
pub returns-in-Err : goal.returns-in-Err
returns-in-Err g c =
    let t = c.args.t in
    let l = c.args.leaf in
    let old = g.M.Leaves.states c.args.movers.now in
    let new = g.M.Leaves.states c.make_move.new.self in
    let waiting = g.Q.TimeQueue.waiting c.args.queue.now in
    let s = c.args.records.now.s.items in
    let why = c.in-Err.why in
    record {
      steps = λ tree given st woken.
          let m = move_at tree t old given (x_records c.args.records.now.x.items) l in
          subst (λ (stop : Stop). let r : Result ⊤ Stop = Err stop in StepsOne t old new waiting waiting s s l m r) (sym c.of_leaf.ensures)
          (step-stops ⊤ t l old new waiting waiting s s why m
          (subst (λ (m : Moved). Moves old new l m (Err why))
          (λ i. move_to t old ((c.has.ensures ∙ woken) i) ((c.deref-2.ensures.value ∙ bag-is c.args.leaf c.in-Ok.ensures.ok c.deref.ensures.value) i) (slice_get (leaves tree) l) (leaf_of old l)) (c.in-Err.ensures.moves tree st)));
      stands = λ tree st. tt;
      rest = refl;
      kept = c.make_move.ensures.kept;
      long = tt;
      waiting = tt;
      ports = tt;
      most = tt;
      visits = c.make_move.ensures.visits;
    }
