use Rattle.std.proofs.Common.{◌≡◌, ◌∙◌, ◌+◌, ℕ, Err, List, drop, refl, sym, ap, subst, rules}
use Rattle.std.specs.declared.result.Result.{Result}
use Rattle.std.proofs.lemmas.List.{drop_all}
use Rattle.rule_tree.specs.declared.outcome.RuleStop.{RuleStop}
use Rattle.rule_forms.specs.ByPort.{Evaluates}
use Rattle.rule_eval.specs.Evaluated.{Lends}
use Rattle.rule_eval.specs.declared.lent.Lent.{Lent}
use Rattle.rule_eval.specs.Seen.{sight_of_view}
use Rattle.rule_tree.specs.Expression.{Rule}
use Rattle.rule_tree.specs.Chosen.{Chosen, outcome_of_rules, if_true, rule_outcome}
use Rattle.rule_eval.proofs.Making.{left_to, rule_holds, rule_stops}
use Rattle.rule_eval.proofs.evaluation.first_true.Goals as goal

pub returns-in_err-condition : goal.returns-in_err-condition
returns-in_err-condition c =
    let s = sight_of_view c.args.view.now in
    let stop = c.in_err-condition.field-0.0 in
    let is : c.from_residual.result ≡ Err stop = search rules in
    let stops = rule_stops c.args.rules.now c.loop-rule.rule-index c.rule-item.result s stop c.loop-rule-test.true c.rule-item.is c.in_err-condition.ensures.value in
    let seen = c.args.view.now.variables.now in
    let P : Chosen → Type 0 = λ o. Lends (Evaluates o) c.from_residual.result c.loop-rule.given c.loop-rule.changed seen in
    let Q : Result (Lent × ℕ) RuleStop → Type 0 = λ r. Lends (Evaluates (Err stop)) r c.loop-rule.given c.loop-rule.changed seen in
    record {
      value = subst P (sym stops ∙ c.loop-rule.invariant.same) (subst Q (sym is) refl);
      capacity = c.condition.ensures.capacity ∙ c.loop-rule.invariant.capacity;
      counts = c.condition.ensures.counts;
      delay = search rules;
    }

pub returns-in-True : goal.returns-in-True
returns-in-True c =
    let rules = c.args.rules.now in
    let i = c.loop-rule.rule-index in
    let rule = c.rule-item.result in
    let s = sight_of_view c.args.view.now in
    let holds = ap (λ t. if_true t (rule_outcome rule s) (outcome_of_rules (drop (i + 1) rules) s)) c.in-True.is in
    let now = rule_holds rules i rule s c.in_ok-condition.field-0 (rule_outcome rule s) c.loop-rule-test.true c.rule-item.is c.in_ok-condition.ensures.value holds in
    let P : Chosen → Type 0 = λ o. Lends (Evaluates o) c.give.result c.give.new.given c.give.new.changed c.args.view.now.variables.now in
    record {
      value = subst P (sym now ∙ c.loop-rule.invariant.same) c.give.ensures.value;
      capacity = c.give.ensures.capacity ∙ c.condition.ensures.capacity ∙ c.loop-rule.invariant.capacity;
      counts = c.give.ensures.counts;
      delay = c.give.ensures.delay;
    }

pub loop-rule-preserved : goal.loop-rule-preserved
loop-rule-preserved c =
    let rules = c.args.rules.now in
    let i = c.loop-rule.rule-index in
    let rule = c.rule-item.result in
    let s = sight_of_view c.args.view.now in
    let later = outcome_of_rules (drop (i + 1) rules) s in
    let left = left_to c.in_ok-condition.field-0 (rule_outcome rule s) later c.in-False.is in
    let goes = rule_holds rules i rule s c.in_ok-condition.field-0 later c.loop-rule-test.true c.rule-item.is c.in_ok-condition.ensures.value left in
    record {
      same = sym goes ∙ c.loop-rule.invariant.same;
      capacity = c.condition.ensures.capacity ∙ c.loop-rule.invariant.capacity;
      counts = c.condition.ensures.counts;
    }

pub returns : goal.returns
returns c =
    let s = sight_of_view c.args.view.now in
    let none = ap (λ (rs : List Rule). outcome_of_rules rs s) (drop_all c.loop-rule.rule-index c.args.rules.now c.loop-rule-test.false) in
    let P : Chosen → Type 0 = λ o. Lends (Evaluates o) (Err RuleStop.NoTrueRule) c.loop-rule.given c.loop-rule.changed c.args.view.now.variables.now in
    record {
      value = subst P (sym none ∙ c.loop-rule.invariant.same) refl;
      capacity = c.loop-rule.invariant.capacity;
      counts = c.loop-rule.invariant.counts;
      delay = tt;
    }
