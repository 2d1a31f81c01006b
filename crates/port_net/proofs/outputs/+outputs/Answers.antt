use Rattle.std.proofs.Common.{rules, ◌≡◌, ◌<◌, ◌+◌, ◌++◌, [], ◌∷◌, List, take, length, refl, sym, ap, ◌∙◌, subst, arith}
use Rattle.std.proofs.lemmas.Grind.{common_steps}
use Rattle.std.proofs.lemmas.List.{take_more, take_all}
use Rattle.std.proofs.lemmas.Result.{IfOk-weaker}
use Rattle.model_tree.specs.declared.component.Component.{Component}
use Rattle.model_tree.specs.Pull as P
use Rattle.port_net.specs.declared.ports.Outputs.{Outputs}
use Rattle.port_net.specs.Outside.{AreOutputs, AllOutputs, leaves_of}
use Rattle.port_net.proofs.Stood.{extends-none, extends-on}
use Rattle.port_net.proofs.Coming.{coupled-gives, coupled-leaves, atomic-outputs, leaves-none, outputs-more, leaves-more}
use Rattle.port_net.proofs.outputs.+outputs.Goals as goal

pub outputs-returns-in-Coupled-clause-ok : goal.outputs-returns-in-Coupled-clause-ok
outputs-returns-in-Coupled-clause-ok t c =
    IfOk-weaker c.outputs_of_coupled.result _ _
    (λ out. subst (λ (x : Component). AreOutputs c.outputs_of_coupled.new.nodes.items x c.args.first out) (sym c.in-Coupled.is))
    c.outputs_of_coupled.ensures.ok

pub outputs-returns-in-Cells-clause-ok : goal.outputs-returns-in-Cells-clause-ok
outputs-returns-in-Cells-clause-ok t c =
    IfOk-weaker c.outputs_of_group.result _ _
    (λ out. subst (λ (x : Component). AreOutputs c.outputs_of_group.new.nodes.items x c.args.first out) (sym c.in-Cells.is))
    c.outputs_of_group.ensures.ok

pub outputs-returns-in-Atomic-clause-extends : goal.outputs-returns-in-Atomic-clause-extends
outputs-returns-in-Atomic-clause-extends t c = extends-none c.args.nodes.now.items

pub outputs-returns-in-Atomic-clause-ok : goal.outputs-returns-in-Atomic-clause-ok
outputs-returns-in-Atomic-clause-ok t c = atomic-outputs c.args.nodes.now.items c.args.component.now _ c.args.first _ c.in-Atomic.is refl refl

pub outputs_of_all-loop-child-init : goal.outputs_of_all-loop-child-init
outputs_of_all-loop-child-init t c =
    record {
      extends = extends-none c.args.nodes.now.items;
      ok = subst (λ (os : List Outputs). AllOutputs c.args.nodes.now.items [] c.args.first os) (sym c.new-outs.ensures.items) tt;
      next = leaves-none c.args.first c.new-outs.result.items c.new-outs.ensures.items;
    }

pub outputs_of_all-loop-child-preserved : goal.outputs_of_all-loop-child-preserved
outputs_of_all-loop-child-preserved t c =
    let within : c.loop-child.child-index < length c.args.children.now = c.loop-child-test.true in
    let pushed : c.push.new.self.items ≡ c.loop-child.outs.items ++ c.in_ok-out.out ∷ [] = search rules in
    let next : c.in_ok-next.next ≡ c.loop-child.next + c.in_ok-out.out.leaves = grind (arith, common_steps) in
    let took : take (c.loop-child.child-index + 1) c.args.children.now ≡ take c.loop-child.child-index c.args.children.now ++ c.child-item.result ∷ [] =
    take_more c.args.children.now c.loop-child.child-index c.child-item.result within ∙ ap (λ (x : Component). take c.loop-child.child-index c.args.children.now ++ x ∷ []) (sym c.child-item.is) in
    let inv = c.loop-child.invariant in
    record {
      extends = extends-on c.args.nodes.now.items c.loop-child.nodes.items c.outputs.new.nodes.items inv.extends c.in_ok-out.ensures.extends;
      ok = outputs-more c.loop-child.nodes.items c.outputs.new.nodes.items c.args.children.now c.loop-child.child-index c.child-item.result c.args.first c.loop-child.next c.loop-child.outs.items c.push.new.self.items c.in_ok-out.out
          c.in_ok-out.ensures.extends inv.ok inv.next c.in_ok-out.ensures.ok pushed took;
      next = leaves-more c.args.first c.loop-child.next c.in_ok-next.next c.loop-child.outs.items c.push.new.self.items c.in_ok-out.out inv.next next pushed;
    }

pub outputs_of_all-returns-clause-extends : goal.outputs_of_all-returns-clause-extends
outputs_of_all-returns-clause-extends t c = c.loop-child.invariant.extends

pub outputs_of_all-returns-clause-ok : goal.outputs_of_all-returns-clause-ok
outputs_of_all-returns-clause-ok t c =
    subst (λ (cs : List Component). AllOutputs c.loop-child.nodes.items cs c.args.first c.loop-child.outs.items)
    (take_all c.loop-child.child-index c.args.children.now c.loop-child-test.false) c.loop-child.invariant.ok

pub outputs_of_coupled-returns-clause-extends : goal.outputs_of_coupled-returns-clause-extends
outputs_of_coupled-returns-clause-extends t c =
    extends-on c.args.nodes.now.items c.outputs_of_all.new.nodes.items c.coupled_arrivals.new.nodes.items c.in_ok-outs.ensures.extends c.in_ok-links.ensures.extends

pub outputs_of_coupled-returns-clause-ok : goal.outputs_of_coupled-returns-clause-ok
outputs_of_coupled-returns-clause-ok t c =
    let mid = c.outputs_of_all.new.nodes.items in
    let new = c.coupled_arrivals.new.nodes.items in
    let known : AllOutputs c.outputs_of_all.new.nodes.items c.args.coupled.now.children.items c.args.first c.in_ok-outs.outs.items =
    subst (λ (cs : List Component). AllOutputs c.outputs_of_all.new.nodes.items cs c.args.first c.in_ok-outs.outs.items) c.deref.ensures.value c.in_ok-outs.ensures.ok in
    let here : AllOutputs c.outputs_of_all.new.nodes.items c.args.coupled.now.children.items c.args.first c.deref-2.result.now =
    subst (λ (os : List Outputs). AllOutputs c.outputs_of_all.new.nodes.items c.args.coupled.now.children.items c.args.first os) (sym c.deref-2.ensures.value) known in
    record {
      first = refl;
      leaves = λ settings. c.in_ok-leaves.ensures ∙ ap leaves_of c.deref-3.ensures.value ∙ coupled-leaves mid c.args.coupled.now c.args.first c.in_ok-outs.outs.items settings known;
      gives = λ ins settings port. coupled-gives new c.args.coupled.now c.args.first settings ins c.in_ok-links.links port (c.in_ok-links.ensures.brings ins P.nothing c.args.first settings (λ p. refl) here);
    }
