use Rattle.std.proofs.Common.{◌≡◌, Err, sym, ap, subst, ◌∙◌, rules, arith, take, map}
use Rattle.std.specs.List.{filter, AllByRecursion}
use Rattle.std.proofs.lemmas.List.{map_more}
use Rattle.model_text.specs.Walk.{is_atomic}
use Rattle.model_walk.specs.declared.item.Item as kept
use Rattle.model_walk.specs.declared.refused.Stop.{Stop}
use Rattle.model_walk.specs.declared.refused.Stop.TheVariants as Stops
use Rattle.model_walk.specs.Shown.{item_of, refusal_of}
use Rattle.model_build.specs.Settled.{classes_of}
use Rattle.model_build.specs.Taken.{HasOnce, Stands}
use Rattle.model_build.proofs.Stocks.{stands-none, stands-more, all-items, has-at, stops, whole, none-refused}
use Rattle.model_build.proofs.stock.atomics.Goals as goal

pub loop-item-init : goal.loop-item-init
loop-item-init g c =
    let items : c.deref-item-items.result.now ≡ c.in_ok-items.items.items = search rules in
    record {
      all = all-items c.args.sections.now c.args.walked.now c.deref-item-items.result.now c.requires.walk (items ∙ c.in_ok-items.ensures ∙ ap (filter (λ (i : kept.Item). is_atomic (item_of i))) c.deref.ensures.value);
      stands = rw c.new-found.ensures.items (stands-none c.args.sections.now c.args.stock.now c.requires.free);
    }

pub add_component-requires : goal.add_component-requires
add_component-requires g c =
    has-at (HasOnce c.args.sections.now) c.deref-item-items.result.now c.loop-item.item-index _ c.loop-item-test.true
    (subst (AllByRecursion (HasOnce c.args.sections.now)) (sym c.loop-item.invariant.all) (c.parameters_stand_once.ensures c.args.sections.now c.requires.keys))

pub loop-item-preserved : goal.loop-item-preserved
loop-item-preserved g c =
    record {
      all = c.loop-item.invariant.all;
      stands = subst (Stands c.args.sections.now (classes_of c.args.stock.now) c.add_component.new.stock c.add_component.new.found.items) (sym (map_more item_of c.deref-item-items.result.now c.loop-item.item-index _ c.loop-item-test.true))
          (stands-more c.args.sections.now (classes_of c.args.stock.now) c.loop-item.stock c.add_component.new.stock c.loop-item.found.items c.add_component.new.found.items (map item_of (take c.loop-item.item-index c.deref-item-items.result.now)) _ c.loop-item.invariant.stands c.in_ok-add_component.ensures.adds);
    }

pub returns-in_err-add_component-clause-refused : goal.returns-in_err-add_component-clause-refused
returns-in_err-add_component-clause-refused g c = λ why e.
    let is : c.from_residual-in_err-add_component.result ≡ Err c.in_err-add_component.field-0.0 = search rules in
    let same : c.in_err-add_component.field-0.0 ≡ Stops.Refused why = cc in
    stops c.args.sections.now (classes_of c.args.stock.now) c.loop-item.stock c.loop-item.found.items c.deref-item-items.result.now c.loop-item.item-index _ (refusal_of why) c.loop-item.invariant.all c.loop-item-test.true c.loop-item.invariant.stands (c.in_err-add_component.ensures.refused why (ap (λ (s : Stop). Err s) same))

pub returns : goal.returns
returns g c =
    let all = whole c.args.sections.now (classes_of c.args.stock.now) c.loop-item.stock c.loop-item.found.items c.deref-item-items.result.now c.loop-item.item-index c.loop-item.invariant.all (omega arith) c.loop-item.invariant.stands in
    record {
      right = none-refused c.args.sections.now (classes_of c.args.stock.now) c.loop-item.stock c.loop-item.found.items all;
      named = all.named;
      boxes = all.boxes;
      apart = all.apart;
      classes = all.kinds;
      refused = λ why e. absurd cc;
    }
