use Rattle.rule_tree.specs.Meaning.{meaning}
use Rattle.rule_forms.specs.Forms.{expr_of_form}
use Rattle.rule_eval.specs.Seen.{sight_with}
use Rattle.rule_eval.proofs.ByNumbers.{number_found, number_too_large}
use Rattle.rule_eval.proofs.numbers.run_number.Goals as goal

pub returns-in-Ok-clause-value : goal.returns-in-Ok-clause-value
returns-in-Ok-clause-value c =
    let s = sight_with c.args.view.now c.args.variables.now in
    number_found (meaning (expr_of_form c.args.form.now) s) c.in-Ok.value c.in-Ok.ensures.value

pub returns-in-Err-clause-value : goal.returns-in-Err-clause-value
returns-in-Err-clause-value c =
    let s = sight_with c.args.view.now c.args.variables.now in
    number_too_large (meaning (expr_of_form c.args.form.now) s) c.in-Err.ensures.value
