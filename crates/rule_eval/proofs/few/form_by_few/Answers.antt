use Rattle.std.proofs.Common.{sym, ap, ◌∙◌}
use Rattle.rule_forms.specs.Forms.{expr_of_form}
use Rattle.rule_eval.proofs.Fewness.{by_few}
use Rattle.rule_eval.proofs.few.form_by_few.Goals as goal

pub returns-in-Test : goal.returns-in-Test
returns-in-Test c = λ so.
    by_few c.args.own c.in-Test.test (expr_of_form c.args.form.now) (ap expr_of_form c.in-Test.is) (sym c.reads_few.ensures ∙ so)
