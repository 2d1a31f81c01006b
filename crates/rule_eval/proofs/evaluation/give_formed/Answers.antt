use Rattle.std.proofs.Common.{◌≡◌, ◌∙◌, ℕ, Ok, Err, sym, ap, subst, rules}
use Rattle.std.specs.declared.result.Result.{Result}
use Rattle.rule_tree.specs.declared.outcome.RuleStop.{RuleStop}
use Rattle.rule_forms.specs.ByPort.{Evaluates}
use Rattle.rule_eval.specs.Evaluated.{GivesValues, SetsVariables, with_given}
use Rattle.rule_eval.specs.Seen.{sight_with, sight_of_view}
use Rattle.rule_tree.specs.Chosen.{rule_outcome as given_by, values_of, variables_after}
use Rattle.rule_eval.proofs.Making.{made_well, stopped_by_a_value, stopped_by_the_delay, stopped_by_a_set}
use Rattle.rule_eval.proofs.evaluation.give_formed.Goals as goal

pub returns-in_err-give_values-clause-value : goal.returns-in_err-give_values-clause-value
returns-in_err-give_values-clause-value c =
    let rule = c.args.rule.now in
    let s = sight_of_view c.args.view.now in
    let stop = c.in_err-give_values.field-0.0 in
    let is : c.from_residual.result ≡ Err stop = search rules in
    let given = subst (λ gs. GivesValues (values_of gs s) (Err stop)) c.gives.ensures c.in_err-give_values.ensures.value in
    let Q : Result ℕ RuleStop → Type 0 = λ r. Evaluates (given_by rule s) (with_given c.give_values.new.given r) c.args.changed.now in
    subst Q (sym is) (stopped_by_a_value rule s stop c.args.changed.now given)

pub returns-in_err-delay-clause-value : goal.returns-in_err-delay-clause-value
returns-in_err-delay-clause-value c =
    let rule = c.args.rule.now in
    let s = sight_of_view c.args.view.now in
    let stop = c.in_err-delay.field-0.0 in
    let is : c.from_residual-in_err-delay.result ≡ Err stop = search rules in
    let given = subst (λ gs. GivesValues (values_of gs s) (Ok c.give_values.new.given)) c.gives.ensures c.in_ok-give_values.ensures.value in
    let Q : Result ℕ RuleStop → Type 0 = λ r. Evaluates (given_by rule s) (with_given c.give_values.new.given r) c.args.changed.now in
    subst Q (sym is) (stopped_by_the_delay rule s c.give_values.new.given stop c.args.changed.now given (sym c.in_err-delay.ensures.value))

pub returns-in_err-set_variables-clause-value : goal.returns-in_err-set_variables-clause-value
returns-in_err-set_variables-clause-value c =
    let rule = c.args.rule.now in
    let view = c.args.view.now in
    let s = sight_of_view view in
    let changed = c.set_variables.new.changed in
    let stop = c.in_err-set_variables.field-0.0 in
    let is : c.from_residual-in_err-set_variables.result ≡ Err stop = search rules in
    let given = subst (λ gs. GivesValues (values_of gs s) (Ok c.give_values.new.given)) c.gives.ensures c.in_ok-give_values.ensures.value in
    let sets = ap (λ xs. variables_after xs (sight_with view c.copy.new.changed)) c.sets.ensures ∙ ap (λ vs. variables_after rule.sets (sight_with view vs)) c.copy.ensures in
    let set = subst (λ o. SetsVariables {U = Unit {0}} o (Err stop) changed) sets c.in_err-set_variables.ensures.value in
    let Q : Result ℕ RuleStop → Type 0 = λ r. Evaluates (given_by rule s) (with_given c.give_values.new.given r) changed in
    subst Q (sym is) (stopped_by_a_set rule s c.give_values.new.given c.in_ok-delay.delay stop changed given (sym c.in_ok-delay.ensures.value) set)

pub returns-clause-value : goal.returns-clause-value
returns-clause-value c =
    let rule = c.args.rule.now in
    let view = c.args.view.now in
    let s = sight_of_view view in
    let changed = c.set_variables.new.changed in
    let given = subst (λ gs. GivesValues (values_of gs s) (Ok c.give_values.new.given)) c.gives.ensures c.in_ok-give_values.ensures.value in
    let sets = ap (λ xs. variables_after xs (sight_with view c.copy.new.changed)) c.sets.ensures ∙ ap (λ vs. variables_after rule.sets (sight_with view vs)) c.copy.ensures in
    let set = subst (λ o. SetsVariables {U = Unit {0}} o (Ok tt) changed) sets c.in_ok-set_variables.ensures.value in
    made_well rule s c.give_values.new.given c.in_ok-delay.delay changed given (sym c.in_ok-delay.ensures.value) set

pub set_variables-requires-clause-counts : goal.set_variables-requires-clause-counts
set_variables-requires-clause-counts c = c.delay.ensures.counts

pub returns-in_err-delay-clause-counts : goal.returns-in_err-delay-clause-counts
returns-in_err-delay-clause-counts c = c.delay.ensures.counts
