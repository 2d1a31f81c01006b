use Rattle.std.proofs.Common.{List, map, sym, ap, ◌∙◌}
use Rattle.rule_tree.specs.declared.node.Node.{Node}
use Rattle.rule_tree.specs.Expression as E
use Rattle.rule_tree.specs.Expression.{Expr}
use Rattle.rule_tree.specs.InCode.{expr_of}
use Rattle.model_rules.proofs.Calls.{exprs_in, node_call}
use Rattle.model_rules.proofs.copied.+copy.Goals as goal

pub copied_node-returns-in_ok-arguments-in-Call : goal.copied_node-returns-in_ok-arguments-in-Call
copied_node-returns-in_ok-arguments-in-Call t c =
    let f = c.in-Call.function in
    node_call f c.in_ok-arguments-in-Call.arguments
    ∙ ap (λ (es : List Expr). E.call f (exprs_in es)) (c.in_ok-arguments-in-Call.ensures ∙ ap (λ (ns : List Node). map expr_of ns) c.deref-in-Call.ensures.value)
    ∙ sym (node_call f c.in-Call.nodes) ∙ ap expr_of (sym c.in-Call.is)
