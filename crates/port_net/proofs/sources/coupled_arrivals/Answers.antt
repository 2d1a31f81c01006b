use Rattle.std.proofs.Common.{◌≡◌, List, sym, ◌∙◌, subst}
use Rattle.std.proofs.lemmas.Result.{IfOk-weaker}
use Rattle.model_tree.specs.declared.component.Component.{Component}
use Rattle.model_tree.specs.declared.link.Link.{Link}
use Rattle.model_tree.specs.Pull as P
use Rattle.port_net.specs.Arriving.{Brings}
use Rattle.port_net.specs.Outside.{AllOutputs, given_in, coupled_at}
use Rattle.port_net.proofs.sources.coupled_arrivals.Goals as goal

pub returns-clause-brings : goal.returns-clause-brings
returns-clause-brings c =
    let top = c.args.coupled.now in
    let list : c.in_ok-children.children.list.now ≡ top.children.items = c.in_ok-children.ensures ∙ c.deref.ensures.value in
    IfOk-weaker c.arrivals.result _ _
    (λ a h ins lists first settings own known.
    let new = c.arrivals.new.nodes.items in
    subst (λ (ls : List Link). Brings ins new a (coupled_at top settings first lists) ls) c.deref-2.ensures.value
    (subst (λ (cs : List Component). Brings ins new a (λ (l : Link). P.at_source l.from lists (given_in cs settings first) P.nothing) c.deref-2.result.now) list
    (h ins lists first settings own (subst (λ (cs : List Component). AllOutputs c.args.nodes.now.items cs first c.args.outs.now) (sym list) known))))
    c.arrivals.ensures.brings
