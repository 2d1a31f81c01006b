use Rattle.std.proofs.Common.{◌∙◌, ◌++◌, ℕ, List, ap, refl}
use Rattle.std.specs.List.{list_any}
use Rattle.quantity.specs.declared.value.Value.{Value}
use Rattle.quantity.specs.Bytes.{has_number}
use Rattle.model_leaves.specs.declared.path.Source.TheVariants.{TopIn}
use Rattle.cycle_steps.specs.Routed.{is_from, numbers}
use Rattle.cycle_steps.specs.Leading.{leads_from_top}
use Rattle.cycle_steps.proofs.OneMore.{has-more, had-all, among-more}
use Rattle.cycle_steps.proofs.reach.reach_from_tops.Goals as goal

pub loop-e-preserved : goal.loop-e-preserved
loop-e-preserved g c = λ k.
    let ps = g.R.Routing.paths c.args.routes.now in
    let e = c.e-item.result in
    let old = c.loop-e.into.items in
    let new = c.append_numbers.new.into.items in
    has-more (λ (es : List (ℕ × Value)). list_any (leads_from_top ps k) es) (leads_from_top ps k) (λ e es. refl)
    c.args.inputs.now c.loop-e.e-index e e _ (has_number old k) (has_number new k) c.loop-e-test.true c.e-item.is (c.loop-e.invariant k)
    (among-more old (numbers (is_from (TopIn e.0)) ps) new k (c.in_ok-append_numbers.ensures ∙ ap (λ ks. old ++ ks) c.targets.ensures))

pub returns : goal.returns
returns g c = λ k.
    had-all (list_any (leads_from_top (g.R.Routing.paths c.args.routes.now) k)) refl
    c.args.inputs.now c.loop-e.e-index _ (has_number c.loop-e.into.items k) c.loop-e-test.false (c.loop-e.invariant k)
