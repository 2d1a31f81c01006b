use Rattle.std.proofs.Common.{◌≡◌, ◌∙◌, ◌+◌, Ok, Err, List, map, drop, set, refl, sym, ap, subst, arith, rules}
use Rattle.std.specs.declared.result.Result.{Result}
use Rattle.std.proofs.lemmas.List.{drop_all}
use Rattle.quantity.specs.declared.value.Value.{Value}
use Rattle.rule_tree.specs.declared.outcome.RuleStop.{RuleStop}
use Rattle.rule_eval.specs.Evaluated.{SetsVariables}
use Rattle.rule_eval.specs.Seen.{sight_with}
use Rattle.rule_forms.specs.declared.numbered.NumberedForm.{NumberedForm}
use Rattle.rule_tree.specs.Chosen.{variables_after}
use Rattle.rule_forms.specs.Numbered.{numbered_expression}
use Rattle.rule_eval.proofs.Making.{deepest_here, set_goes, set_stops}
use Rattle.rule_eval.proofs.evaluation.set_variables.Goals as goal

pub number-requires : goal.number-requires
number-requires c =
    let here = deepest_here c.args.sets.now c.loop-set.set-index c.set-item.result c.loop-set-test.true c.set-item.is in
    record { view = c.requires.view; counts = c.loop-set.invariant.counts; room = omega (arith, here, c.loop-set.invariant.room) }

pub loop-set-preserved : goal.loop-set-preserved
loop-set-preserved c =
    let sets = c.args.sets.now in
    let i = c.loop-set.set-index in
    let item = c.set-item.result in
    let value = c.in_ok-value.value in
    let old = c.loop-set.changed in
    let s = sight_with c.args.view.now old in
    let changed = c.put.ensures ∙ ap (λ k. set old k value) c.from.ensures in
    let here = deepest_here sets i item c.loop-set-test.true c.set-item.is in
    let goes = set_goes sets i item s value c.loop-set-test.true c.set-item.is c.in_ok-value.ensures.value in
    record {
      same = ap (λ vs. variables_after (map numbered_expression (drop (i + 1) sets)) (sight_with c.args.view.now vs)) changed ∙ sym goes ∙ c.loop-set.invariant.same;
      room = omega (arith, here, c.loop-set.invariant.room, c.number.ensures.capacity);
      capacity = c.number.ensures.capacity ∙ c.loop-set.invariant.capacity;
      counts = c.number.ensures.counts;
    }

pub returns-in_err-value : goal.returns-in_err-value
returns-in_err-value c =
    let stop = c.in_err-value.field-0.0 in
    let changed = c.loop-set.changed in
    let is : c.from_residual.result ≡ Err stop = search rules in
    let stops = set_stops c.args.sets.now c.loop-set.set-index c.set-item.result (sight_with c.args.view.now changed) stop c.loop-set-test.true c.set-item.is c.in_err-value.ensures.value in
    let P : Result (List Value) RuleStop → Type 0 = λ o. SetsVariables {U = Unit {0}} o c.from_residual.result changed in
    let Q : Result (Unit {0}) RuleStop → Type 0 = λ r. SetsVariables (Err stop) r changed in
    record {
      value = subst P (sym stops ∙ c.loop-set.invariant.same) (subst Q (sym is) refl);
      capacity = c.number.ensures.capacity ∙ c.loop-set.invariant.capacity;
      counts = c.number.ensures.counts;
    }

pub returns : goal.returns
returns c =
    let changed = c.loop-set.changed in
    let none = ap (λ (xs : List NumberedForm). variables_after (map numbered_expression xs) (sight_with c.args.view.now changed)) (drop_all c.loop-set.set-index c.args.sets.now c.loop-set-test.false) in
    let P : Result (List Value) RuleStop → Type 0 = λ o. SetsVariables {U = Unit {0}} o (Ok tt) changed in
    record {
      value = subst P (sym none ∙ c.loop-set.invariant.same) refl;
      capacity = c.loop-set.invariant.capacity;
      counts = c.loop-set.invariant.counts;
    }
