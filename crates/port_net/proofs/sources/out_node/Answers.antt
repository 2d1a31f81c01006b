use Rattle.std.proofs.Common.{ℕ, List, sym, subst}
use Rattle.std.proofs.lemmas.Result.{IfOk-weaker}
use Rattle.model_tree.specs.declared.component.Component.{Component}
use Rattle.model_tree.specs.declared.component.Component.TheVariants as in_tree
use Rattle.port_net.specs.Shown.{Gives, Join}
use Rattle.port_net.specs.Outside.{GivesOut, comes_out}
use Rattle.port_net.proofs.sources.out_node.Goals as goal

pub returns-in_ok-older-in-Coupled-clause-gives : goal.returns-in_ok-older-in-Coupled-clause-gives
returns-in_ok-older-in-Coupled-clause-gives c =
    IfOk-weaker c.join.result _ _
    (λ k h ins settings known.
    let here = subst (λ (x : Component). GivesOut c.args.nodes.now.items x c.args.out.now) c.in-Coupled.is known in
    subst (λ (x : Component). Gives ins c.join.new.nodes.items k (comes_out x settings c.args.out.now c.args.port.now)) (sym c.in-Coupled.is)
    (h ins (comes_out (in_tree.Coupled c.in-Coupled._coupled) settings c.args.out.now c.args.port.now)
    (subst (λ (ks : List ℕ). Join ins c.args.nodes.now.items ks (comes_out (in_tree.Coupled c.in-Coupled._coupled) settings c.args.out.now c.args.port.now)) (sym c.in_ok-older-in-Coupled.ensures) (here ins settings c.args.port.now))))
    c.join.ensures.joins

pub returns-in_ok-older-in-Cells-clause-gives : goal.returns-in_ok-older-in-Cells-clause-gives
returns-in_ok-older-in-Cells-clause-gives c =
    IfOk-weaker c.join-in-Cells.result _ _
    (λ k h ins settings known.
    let here = subst (λ (x : Component). GivesOut c.args.nodes.now.items x c.args.out.now) c.in-Cells.is known in
    subst (λ (x : Component). Gives ins c.join-in-Cells.new.nodes.items k (comes_out x settings c.args.out.now c.args.port.now)) (sym c.in-Cells.is)
    (h ins (comes_out (in_tree.Cells c.in-Cells._group) settings c.args.out.now c.args.port.now)
    (subst (λ (ks : List ℕ). Join ins c.args.nodes.now.items ks (comes_out (in_tree.Cells c.in-Cells._group) settings c.args.out.now c.args.port.now)) (sym c.in_ok-older-in-Cells.ensures) (here ins settings c.args.port.now))))
    c.join-in-Cells.ensures.joins

pub returns-in-Atomic-clause-gives : goal.returns-in-Atomic-clause-gives
returns-in-Atomic-clause-gives c =
    IfOk-weaker c.give.result _ _
    (λ k h ins settings known. subst (λ (x : Component). Gives ins c.give.new.nodes.items k (comes_out x settings c.args.out.now c.args.port.now)) (sym c.in-Atomic.is) (h ins))
    c.give.ensures.gives
