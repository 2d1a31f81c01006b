use Rattle.std.proofs.Common.{◌≡◌, ◌+◌, sym, subst, arith}
use Rattle.std.proofs.lemmas.Result.{IfOk-weaker}
use Rattle.std.proofs.lemmas.Grind.{common_steps}
use Rattle.port_net.specs.declared.ports.Inside.{Inside}
use Rattle.port_net.specs.Shown.{Gives, leaf_list}
use Rattle.port_net.specs.Outside.{cell_lists}
use Rattle.port_net.proofs.Standing.{empty-joined}
use Rattle.port_net.proofs.sources.cell_node.Goals as goal

pub returns-in-Children-clause-gives : goal.returns-in-Children-clause-gives
returns-in-Children-clause-gives c =
    IfOk-weaker c.join.result _ _
    (λ k h ins. subst (λ (i : Inside). Gives ins c.join.new.nodes.items k (cell_lists i c.args.cell)) (sym c.in-Children.is) (empty-joined c.args.nodes.now.items c.join.new.nodes.items k c.new.result.items c.new.ensures.items h ins))
    c.join.ensures.joins

pub returns-in_ok-leaf-in-Cells-clause-gives : goal.returns-in_ok-leaf-in-Cells-clause-gives
returns-in_ok-leaf-in-Cells-clause-gives c =
    let leaf : c.in_ok-leaf-in-Cells.leaf ≡ c.in-Cells.first + c.args.cell = grind (arith, common_steps) in
    IfOk-weaker c.give.result _ _
    (λ k h ins. subst (λ (i : Inside). Gives ins c.give.new.nodes.items k (cell_lists i c.args.cell)) (sym c.in-Cells.is) (subst (λ n. Gives ins c.give.new.nodes.items k (leaf_list n)) leaf (h ins)))
    c.give.ensures.gives
