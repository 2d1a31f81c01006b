use Rattle.std.proofs.Common.{◌∙◌, ◌++◌, List, ap, refl}
use Rattle.std.specs.List.{list_any}
use Rattle.model_leaves.specs.declared.path.Source.TheVariants.{Leaf}
use Rattle.text_forms.specs.declared.records.YRecord.{YRecord}
use Rattle.quantity.specs.Bytes.{has_number}
use Rattle.cycle_steps.specs.Untimed.{y_record, y_records}
use Rattle.cycle_steps.specs.Routed.{is_from, numbers}
use Rattle.cycle_steps.specs.Leading.{leads_from_leaf}
use Rattle.cycle_steps.proofs.OneMore.{has-more, had-all, among-more}
use Rattle.cycle_steps.proofs.reach.reach_from_leaves.Goals as goal

pub loop-r-preserved : goal.loop-r-preserved
loop-r-preserved g c = λ k.
    let ps = g.R.Routing.paths c.args.routes.now in
    let r = c.r-item.result in
    let old = c.loop-r.into.items in
    let new = c.append_numbers.new.into.items in
    has-more (λ (rs : List YRecord). list_any (leads_from_leaf ps k) (y_records rs)) (λ (r : YRecord). leads_from_leaf ps k (y_record r)) (λ r rs. refl)
    c.args.y.now c.loop-r.r-index r r _ (has_number old k) (has_number new k) c.loop-r-test.true c.r-item.is (c.loop-r.invariant k)
    (among-more old (numbers (is_from (Leaf r.leaf)) ps) new k (c.in_ok-append_numbers.ensures ∙ ap (λ ks. old ++ ks) c.targets.ensures))

pub returns : goal.returns
returns g c = λ k.
    had-all (λ (rs : List YRecord). list_any (leads_from_leaf (g.R.Routing.paths c.args.routes.now) k) (y_records rs)) refl
    c.args.y.now c.loop-r.r-index _ (has_number c.loop-r.into.items k) c.loop-r-test.false (c.loop-r.invariant k)
