use Rattle.std.proofs.Common.{Ok, List, sym, subst}
use Rattle.quantity.specs.declared.value.Value.{Value}
use Rattle.rule_tree.specs.Chosen.{outcome_of_rules}
use Rattle.rule_forms.specs.declared.given.Given.{Given}
use Rattle.rule_forms.specs.ByPort.{Evaluates}
use Rattle.rule_eval.specs.Evaluated.{IsFound, only}
use Rattle.rule_eval.specs.Seen.{sight_of_view}
use Rattle.rule_eval.specs.declared.lent.Lent.{Lent}
use Rattle.rule_eval.proofs.evaluation.evaluate_counted.Goals as goal

pub returns-in-Known-clause-value : goal.returns-in-Known-clause-value
returns-in-Known-clause-value c =
    let view = c.args.view.now in
    let P : Lent → Type 0 = λ l. IsFound (Evaluates (outcome_of_rules c.args.rules.now (sight_of_view view))) l c.in-Ok.delay c.evaluate_lent.new.given c.evaluate_lent.new.changed view.variables.now in
    subst P c.in-Known.is c.in-Ok.ensures.value

pub returns-in-Alone-clause-value : goal.returns-in-Alone-clause-value
returns-in-Alone-clause-value c =
    let view = c.args.view.now in
    let outcome = outcome_of_rules c.args.rules.now (sight_of_view view) in
    let P : Lent → Type 0 = λ l. IsFound (Evaluates outcome) l c.in-Ok.delay c.evaluate_lent.new.given c.evaluate_lent.new.changed view.variables.now in
    let Q : List Value → Type 0 = λ vs. Evaluates outcome (Ok (only c.in-Alone.value, c.in-Ok.delay)) vs in
    subst Q (sym c.copy.ensures) (subst P c.in-Alone.is c.in-Ok.ensures.value)

pub returns-in-Placed-clause-value : goal.returns-in-Placed-clause-value
returns-in-Placed-clause-value c =
    let view = c.args.view.now in
    let P : Lent → Type 0 = λ l. IsFound (Evaluates (outcome_of_rules c.args.rules.now (sight_of_view view))) l c.in-Ok.delay c.evaluate_lent.new.given c.evaluate_lent.new.changed view.variables.now in
    subst P c.in-Placed.is c.in-Ok.ensures.value

pub returns-in-Err-clause-value : goal.returns-in-Err-clause-value
returns-in-Err-clause-value c = c.in-Err.ensures.value
