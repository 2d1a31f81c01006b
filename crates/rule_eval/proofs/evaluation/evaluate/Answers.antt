use Rattle.std.proofs.Common.{Option, Ok, List, sym, subst}
use Rattle.std.specs.Borrow.{Bor}
use Rattle.quantity.specs.declared.value.Value.{Value}
use Rattle.rule_tree.specs.Chosen.{outcome_of_rules}
use Rattle.rule_forms.specs.declared.known.Constant.{Constant}
use Rattle.rule_forms.specs.ByPort.{Evaluates}
use Rattle.rule_eval.specs.Evaluated.{IsLent}
use Rattle.rule_eval.specs.Seen.{sight_of_view}
use Rattle.rule_eval.proofs.evaluation.evaluate.Goals as goal

pub returns-in-Some-clause-value : goal.returns-in-Some-clause-value
returns-in-Some-clause-value c =
    let view = c.args.view.now in
    let outcome = outcome_of_rules c.args.rules.now (sight_of_view view) in
    let P : Option (Bor Constant) → Type 0 = λ o. IsLent (Evaluates outcome) o c.in-Ok.made.1 c.evaluate_into.new.given c.evaluate_into.new.changed view.variables.now in
    let Q : List Value → Type 0 = λ vs. Evaluates outcome (Ok (c.in-Some.constant.now.given, c.in-Ok.made.1)) vs in
    subst Q (sym c.copy.ensures) (subst P c.in-Some.is c.in-Ok.ensures.value)

pub returns-in-None-clause-value : goal.returns-in-None-clause-value
returns-in-None-clause-value c =
    let view = c.args.view.now in
    let P : Option (Bor Constant) → Type 0 = λ o. IsLent (Evaluates (outcome_of_rules c.args.rules.now (sight_of_view view))) o c.in-Ok.made.1 c.evaluate_into.new.given c.evaluate_into.new.changed view.variables.now in
    subst P c.in-None.is c.in-Ok.ensures.value

pub returns-in-Err-clause-value : goal.returns-in-Err-clause-value
returns-in-Err-clause-value c = c.in-Err.ensures.value
