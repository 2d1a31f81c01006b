use Rattle.std.proofs.Common.{◌≡◌, ◌≤◌, ◌<◌, ◌+◌, ◌++◌, [], ◌∷◌, List, take, length, refl, sym, ap, ◌∙◌, subst, arith}
use Rattle.std.proofs.lemmas.List.{take_more, take_all}
use Rattle.std.proofs.lemmas.Result.{on_ok_weaker}
use Rattle.model_tree.specs.declared.component.Component.{Component}
use Rattle.model_tree.specs.declared.link.Link.{Link}
use Rattle.model_tree.specs.Tree.{Word, name_of}
use Rattle.model_tree.specs.Pull as P
use Rattle.model_tree.specs.Stands.{part_of}
use Rattle.port_net.specs.declared.ports.Outputs.{Outputs}
use Rattle.port_net.specs.Shown.{Extends, Join}
use Rattle.port_net.specs.Arriving.{nodes_to, Brings}
use Rattle.port_net.specs.Outside.{AllOutputs, given_in}
use Rattle.port_net.specs.Rows.{Takes, taken_by}
use Rattle.port_net.proofs.Stood.{extends-on, join-kept}
use Rattle.port_net.proofs.Standing.{outputs-kept, ports-kept}
use Rattle.port_net.proofs.Coming.{first-at}
use Rattle.port_net.proofs.Rowed.{grows-on, grows-as, nodes-put, grows-child, taken-Coupled, own_of, coupled-takes}
use Rattle.port_net.proofs.rows.+put.Goals as goal

pub put-returns-in-Coupled-clause-takes : goal.put-returns-in-Coupled-clause-takes
put-returns-in-Coupled-clause-takes t c =
    on_ok_weaker c.put_coupled.result (subst (λ (x : Component). Takes x c.args.first c.args.own.now c.args.net.now c.put_coupled.new.net) (sym c.in-Coupled.is)) c.put_coupled.ensures.takes

pub put-returns-in-Cells-clause-takes : goal.put-returns-in-Cells-clause-takes
put-returns-in-Cells-clause-takes t c =
    on_ok_weaker c.put_group.result (subst (λ (x : Component). Takes x c.args.first c.args.own.now c.args.net.now c.put_group.new.net) (sym c.in-Cells.is)) c.put_group.ensures.takes

pub put-returns-in-Atomic-clause-takes : goal.put-returns-in-Atomic-clause-takes
put-returns-in-Atomic-clause-takes t c =
    on_ok_weaker c.put_atomic.result (subst (λ (x : Component). Takes x c.args.first c.args.own.now c.args.net.now c.put_atomic.new.net) (sym c.in-Atomic.is)) c.put_atomic.ensures.takes

pub put_all-loop-i-preserved : goal.put_all-loop-i-preserved
put_all-loop-i-preserved t c =
    let within : c.loop-i.i < length c.args.children.now = c.loop-i-test.true in
    let took : take (c.loop-i.i + 1) c.args.children.now ≡ take c.loop-i.i c.args.children.now ++ c.index-children-i.result ∷ [] =
    take_more c.args.children.now c.loop-i.i c.index-children-i.result within ∙ ap (λ (x : Component). take c.loop-i.i c.args.children.now ++ x ∷ []) (sym c.index-children-i.is) in
    let inv = c.loop-i.invariant in
    record {
      extends = extends-on c.args.net.now.nodes.items c.loop-i.net.nodes.items c.put.new.net.nodes.items inv.extends c.in_ok-put.ensures.extends;
      takes = λ ins settings first own known join.
          let name = name_of (part_of c.index-children-i.result settings) in
          let called : c.name_of.result.now ≡ name_of (part_of c.index-children-i.result settings) = c.name_of.ensures settings in
          grows-child ins c.args.net.now c.loop-i.net c.put.new.net c.args.children.now c.loop-i.i c.index-children-i.result settings first c.in-Some.out.now.first own took
          (first-at c.args.net.now.nodes.items c.args.children.now first c.args.outs.now settings c.loop-i.i c.in-Some.out.now known c.in-Some.ensures) (inv.takes ins settings first own known join)
          (c.in_ok-put.ensures.takes ins settings (own name)
          (λ port. join-kept ins c.args.net.now.nodes.items c.loop-i.net.nodes.items (nodes_to c.args.links.now (P.is_child port c.name_of.result.now)) (own name port) inv.extends
          (subst (λ (w : Word). Join ins c.args.net.now.nodes.items (nodes_to c.args.links.now (P.is_child port w)) (own name port)) (sym called) (join name port))));
    }

pub put_all-returns-clause-takes : goal.put_all-returns-clause-takes
put_all-returns-clause-takes t c = λ ins settings first own known join.
    let past : length c.args.children.now ≤ c.loop-i.i = omega arith in
    rw (take_all c.loop-i.i c.args.children.now past) at (c.loop-i.invariant.takes ins settings first own known join)

pub put_coupled-returns-clause-extends : goal.put_coupled-returns-clause-extends
put_coupled-returns-clause-extends t c =
    on_ok_weaker c.put_all.result
    (λ more.
    extends-on c.args.net.now.nodes.items c.coupled_arrivals.new.nodes.items c.put_all.new.net.nodes.items
    (extends-on c.args.net.now.nodes.items c.outputs_of_all.new.nodes.items c.coupled_arrivals.new.nodes.items c.in_ok-outs.ensures.extends c.in_ok-links.ensures.extends) more)
    c.put_all.ensures.extends

pub put_coupled-returns-clause-takes : goal.put_coupled-returns-clause-takes
put_coupled-returns-clause-takes t c =
    on_ok_weaker c.put_all.result
    (λ h ins settings lists own.
    let old = c.args.net.now.nodes.items in
    let mid = c.outputs_of_all.new.nodes.items in
    let new = c.coupled_arrivals.new.nodes.items in
    let top = c.args.coupled.now in
    let from = λ (cs : List Component) (l : Link). P.at_source l.from lists (given_in cs settings c.args.first) P.nothing in
    let longer : Extends old new = extends-on old mid new c.in_ok-outs.ensures.extends c.in_ok-links.ensures.extends in
    let known : AllOutputs mid top.children.items c.args.first c.in_ok-outs.outs.items = subst (λ (cs : List Component). AllOutputs mid cs c.args.first c.in_ok-outs.outs.items) c.deref.ensures.value c.in_ok-outs.ensures.ok in
    let known2 : AllOutputs mid top.children.items c.args.first c.deref-2.result.now =
    subst (λ (os : List Outputs). AllOutputs mid top.children.items c.args.first os) (sym c.deref-2.ensures.value) known in
    let known3 : AllOutputs new c.deref-3.result.now c.args.first c.deref-4.result.now =
    subst (λ (cs : List Component). AllOutputs new cs c.args.first c.deref-4.result.now) (sym c.deref-3.ensures.value)
    (subst (λ (os : List Outputs). AllOutputs new top.children.items c.args.first os) (sym c.deref-4.ensures.value) (outputs-kept mid new top.children.items c.args.first c.in_ok-outs.outs.items c.in_ok-links.ensures.extends known)) in
    let given : Brings ins new c.in_ok-links.links (from top.children.items) top.links.items =
    c.in_ok-links.ensures.brings ins lists c.args.first settings (ports-kept ins old mid c.args.own.now lists c.in_ok-outs.ensures.extends own) known2 in
    grows-as ins c.args.net.now c.put_all.new.net (taken_by c.deref-3.result.now settings c.args.first (own_of top settings c.args.first lists)) _
    (ap (λ (cs : List Component). taken_by cs settings c.args.first (own_of top settings c.args.first lists)) c.deref-3.ensures.value ∙ taken-Coupled top settings c.args.first (own_of top settings c.args.first lists))
    (grows-on ins c.args.net.now _ c.put_all.new.net [] (taken_by c.deref-3.result.now settings c.args.first (own_of top settings c.args.first lists)) (nodes-put c.args.net.now _ ins longer refl refl)
    (h ins settings c.args.first (own_of top settings c.args.first lists) known3
    (coupled-takes top settings c.args.first ins new c.in_ok-links.links lists given))))
    c.put_all.ensures.takes
