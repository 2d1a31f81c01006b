use Rattle.std.proofs.Common.{Some, sym, ap, ◌∙◌}
use Rattle.quantity.specs.declared.truth.Tri.{Tri}
use Rattle.rule_tree.specs.declared.outcome.Answer.TheVariants.{Logic}
use Rattle.rule_tree.specs.Meaning.{meaning}
use Rattle.rule_forms.specs.declared.forms.Form.{Form}
use Rattle.rule_eval.specs.Seen.{sight_of_view}
use Rattle.rule_forms.specs.Stops.{truth_or_stop}
use Rattle.rule_forms.specs.Forms.{expr_of_form}
use Rattle.rule_eval.proofs.FormTests.{test_means}
use Rattle.rule_eval.proofs.evaluation.truth_of.Goals as goal

pub returns-in-Test-clause-value : goal.returns-in-Test-clause-value
returns-in-Test-clause-value c =
    let s = sight_of_view c.args.view.now in
    ap (λ (t : Tri). truth_or_stop (Some (Logic t))) c.truth.ensures.value
    ∙ sym (ap truth_or_stop (ap (λ (f : Form). meaning (expr_of_form f) s) c.in-Test.is ∙ test_means c.in-Test.test s))
