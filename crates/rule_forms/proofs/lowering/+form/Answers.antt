use Rattle.std.proofs.Common.{List, map, sym, ap, ◌∙◌}
use Rattle.rule_tree.specs.declared.node.Node.{Node}
use Rattle.rule_tree.specs.Expression as E
use Rattle.rule_tree.specs.Expression.{Expr}
use Rattle.rule_tree.specs.InCode.{expr_of}
use Rattle.rule_forms.specs.Forms.{exprs_in}
use Rattle.rule_forms.proofs.FormTrees.{node_call, form_call}
use Rattle.rule_forms.proofs.lowering.+form.Goals as goal

pub form_of-returns-in_ok-arguments-in-Call : goal.form_of-returns-in_ok-arguments-in-Call
form_of-returns-in_ok-arguments-in-Call t c =
    let f = c.in-Call.function in
    form_call f c.in_ok-arguments-in-Call.arguments
    ∙ ap (λ (es : List Expr). E.call f (exprs_in es)) (c.in_ok-arguments-in-Call.ensures ∙ ap (λ (ns : List Node). map expr_of ns) c.deref-in-Call.ensures.value)
    ∙ sym (node_call f c.in-Call.nodes) ∙ ap expr_of (sym c.in-Call.is)
