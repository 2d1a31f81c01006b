use Rattle.std.proofs.Common.{sym, subst}
use Rattle.std.proofs.lemmas.Result.{IfOk-weaker}
use Rattle.port_net.specs.declared.ports.Inside.{Inside}
use Rattle.port_net.specs.Shown.{Gives}
use Rattle.port_net.specs.Outside.{InsideIs, child_lists}
use Rattle.port_net.proofs.Standing.{empty-joined}
use Rattle.port_net.proofs.sources.child_node.Goals as goal

pub returns-in-Children-clause-gives : goal.returns-in-Children-clause-gives
returns-in-Children-clause-gives c =
    IfOk-weaker c.named_node.result _ _
    (λ k h ins first settings known.
    subst (λ (i : Inside). Gives ins c.named_node.new.nodes.items k (child_lists i settings first c.args.port.now c.args.child.now)) (sym c.in-Children.is)
    (h ins first settings (subst (λ (i : Inside). InsideIs c.args.nodes.now.items i first) c.in-Children.is known)))
    c.named_node.ensures.gives

pub returns-in-Cells-clause-gives : goal.returns-in-Cells-clause-gives
returns-in-Cells-clause-gives c =
    IfOk-weaker c.join.result _ _
    (λ k h ins first settings known.
    subst (λ (i : Inside). Gives ins c.join.new.nodes.items k (child_lists i settings first c.args.port.now c.args.child.now)) (sym c.in-Cells.is)
    (empty-joined c.args.nodes.now.items c.join.new.nodes.items k c.new.result.items c.new.ensures.items h ins))
    c.join.ensures.joins
