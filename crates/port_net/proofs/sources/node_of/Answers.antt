use Rattle.std.proofs.Common.{sym, subst}
use Rattle.std.proofs.lemmas.Result.{IfOk-weaker}
use Rattle.model_tree.specs.declared.link.End.{End}
use Rattle.port_net.specs.Shown.{Gives}
use Rattle.port_net.specs.Outside.{stands_at}
use Rattle.port_net.proofs.sources.node_of.Goals as goal

pub returns-in-Child-clause-gives : goal.returns-in-Child-clause-gives
returns-in-Child-clause-gives c =
    IfOk-weaker c.child_node.result _ _
    (λ k h ins lists first settings own known.
    subst (λ (e : End). Gives ins c.child_node.new.nodes.items k (stands_at c.args.inside.now settings first lists e)) (sym c.in-Child.is) (h ins first settings known))
    c.child_node.ensures.gives

pub returns-in-Cell-clause-gives : goal.returns-in-Cell-clause-gives
returns-in-Cell-clause-gives c =
    IfOk-weaker c.cell_node.result _ _
    (λ k h ins lists first settings own known.
    subst (λ (e : End). Gives ins c.cell_node.new.nodes.items k (stands_at c.args.inside.now settings first lists e)) (sym c.in-Cell.is) (h ins))
    c.cell_node.ensures.gives
