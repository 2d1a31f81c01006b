use Rattle.std.proofs.Common.{eqb, map, refl}
use Rattle.std.specs.Prelude.{not}
use Rattle.atomic_face.specs.Classes.{Bag}
use Rattle.run_model.specs.Run.{port_records}
use Rattle.text_forms.specs.Held.{y_at}
use Rattle.sparse_cycle.specs.Collect.{y_of, n_of}
use Rattle.cycle_steps.proofs.OneMore.{appends-more, appended-all, map-kept}
use Rattle.cycle_steps.proofs.Stops.{stopped}
use Rattle.cycle_steps.proofs.collect.append_emitted.Goals as goal

pub loop-given-preserved : goal.loop-given-preserved
loop-given-preserved c =
    let t = c.args.t in
    let leaf = c.args.leaf in
    let given = c.given-item.result in
    record {
      y = appends-more (λ (bag : Bag). map (y_at t) (y_of (port_records (leaf, bag))))
          (λ o os. map-kept (y_at t) (eqb o.0.0 0) (record { leaf = leaf; port = o.0.0; value = o.1 }) (y_of (port_records (leaf, os))))
          c.args.bag.now c.loop-given.given-index given _ c.loop-given.y.items c.append_one.new.y.items c.loop-given-test.true c.given-item.is c.loop-given.invariant.y c.in_ok-append_one.ensures.y;
      n = appends-more (λ (bag : Bag). map (y_at t) (n_of (port_records (leaf, bag))))
          (λ o os. map-kept (y_at t) (not (eqb o.0.0 0)) (record { leaf = leaf; port = o.0.0; value = o.1 }) (n_of (port_records (leaf, os))))
          c.args.bag.now c.loop-given.given-index given _ c.loop-given.n.items c.append_one.new.n.items c.loop-given-test.true c.given-item.is c.loop-given.invariant.n c.in_ok-append_one.ensures.n;
    }

pub loop-given-init : goal.loop-given-init
loop-given-init c = record { y = refl; n = refl }

pub returns-in_err-append_one : goal.returns-in_err-append_one
returns-in_err-append_one c =
    record { y = stopped _ c.from_residual.result c.from_residual.ensures.0; n = stopped _ c.from_residual.result c.from_residual.ensures.0 }

pub returns-clause-y : goal.returns-clause-y
returns-clause-y c =
    appended-all (λ (bag : Bag). map (y_at c.args.t) (y_of (port_records (c.args.leaf, bag)))) refl
    c.args.bag.now c.loop-given.given-index _ c.loop-given.y.items c.loop-given-test.false c.loop-given.invariant.y

pub returns-clause-n : goal.returns-clause-n
returns-clause-n c =
    appended-all (λ (bag : Bag). map (y_at c.args.t) (n_of (port_records (c.args.leaf, bag)))) refl
    c.args.bag.now c.loop-given.given-index _ c.loop-given.n.items c.loop-given-test.false c.loop-given.invariant.n
