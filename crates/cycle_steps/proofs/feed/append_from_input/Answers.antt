use Rattle.std.proofs.Common.{ℕ, List, map, eqb, ap, refl}
use Rattle.std.specs.List.{filter}
use Rattle.quantity.specs.declared.value.Value.{Value}
use Rattle.text_forms.specs.Held.{x_at, out_at}
use Rattle.cycle_steps.specs.Routed.{values_of_input, fed_to, out_to}
use Rattle.cycle_steps.proofs.Growth.{grown-same, grown-after}
use Rattle.cycle_steps.proofs.OneMore.{appends-more, appended-all, fed-kept, out-kept}
use Rattle.cycle_steps.proofs.Runs.{fed-none, out-none}
use Rattle.cycle_steps.proofs.feed.append_from_input.Goals as goal

pub loop-e-preserved : goal.loop-e-preserved
loop-e-preserved c =
    let t = c.args.t in
    let k = c.args.input in
    let at = λ (e : ℕ × Value). eqb e.0 k in
    record {
      x = appends-more (λ (es : List (ℕ × Value)). map (x_at t) (fed_to c.args.to (values_of_input es k)))
          (λ e es. fed-kept (λ (e : ℕ × Value). e.1) t c.args.to (at e) e (filter at es))
          c.args.inputs.now c.loop-e.e-index c.e-item.result _ c.loop-e.x.items c.append_if_from.new.x.items c.loop-e-test.true c.e-item.is c.loop-e.invariant.x c.in_ok-append_if_from.ensures.x;
      out = appends-more (λ (es : List (ℕ × Value)). map (out_at t) (out_to c.args.to (values_of_input es k)))
          (λ e es. out-kept (λ (e : ℕ × Value). e.1) t c.args.to (at e) e (filter at es))
          c.args.inputs.now c.loop-e.e-index c.e-item.result _ c.loop-e.out.items c.append_if_from.new.out.items c.loop-e-test.true c.e-item.is c.loop-e.invariant.out c.in_ok-append_if_from.ensures.out;
      x_grows = grown-after _ _ _ c.loop-e.invariant.x_grows c.append_if_from.ensures.x_grows;
      out_grows = grown-after _ _ _ c.loop-e.invariant.out_grows c.append_if_from.ensures.out_grows;
    }

pub returns-clause-x : goal.returns-clause-x
returns-clause-x c =
    appended-all (λ (es : List (ℕ × Value)). map (x_at c.args.t) (fed_to c.args.to (values_of_input es c.args.input))) (ap (map (x_at c.args.t)) (fed-none c.args.to))
    c.args.inputs.now c.loop-e.e-index _ c.loop-e.x.items c.loop-e-test.false c.loop-e.invariant.x

pub returns-clause-out : goal.returns-clause-out
returns-clause-out c =
    appended-all (λ (es : List (ℕ × Value)). map (out_at c.args.t) (out_to c.args.to (values_of_input es c.args.input))) (ap (map (out_at c.args.t)) (out-none c.args.to))
    c.args.inputs.now c.loop-e.e-index _ c.loop-e.out.items c.loop-e-test.false c.loop-e.invariant.out

pub returns-in_err-append_if_from-clause-x_grows : goal.returns-in_err-append_if_from-clause-x_grows
returns-in_err-append_if_from-clause-x_grows c = grown-after _ _ _ c.loop-e.invariant.x_grows c.append_if_from.ensures.x_grows

pub returns-in_err-append_if_from-clause-out_grows : goal.returns-in_err-append_if_from-clause-out_grows
returns-in_err-append_if_from-clause-out_grows c = grown-after _ _ _ c.loop-e.invariant.out_grows c.append_if_from.ensures.out_grows

pub loop-e-init : goal.loop-e-init
loop-e-init c = record { x = refl; out = refl; x_grows = grown-same _ _ refl; out_grows = grown-same _ _ refl }
