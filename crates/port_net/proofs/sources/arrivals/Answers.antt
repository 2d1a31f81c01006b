use Rattle.std.proofs.Common.{ℕ, List, subst}
use Rattle.std.proofs.lemmas.Result.{IfOk-weaker}
use Rattle.model_tree.specs.declared.link.Link.{Link}
use Rattle.port_net.specs.Arriving.{Arrive}
use Rattle.port_net.specs.Outside.{stands_at}
use Rattle.port_net.proofs.Arrived.{bring}
use Rattle.port_net.proofs.sources.arrivals.Goals as goal

pub returns-clause-brings : goal.returns-clause-brings
returns-clause-brings c =
    IfOk-weaker c.of_links.result _ _
    (λ a arrive ins lists first settings own known.
    bring ins c.link_nodes.new.nodes.items a (λ (l : Link). stands_at c.args.inside.now settings first lists l.from) c.args.links.now c.in_ok-ks.ks.items
    (c.in_ok-ks.ensures.gives ins lists first settings own known) (subst (λ (ks : List ℕ). Arrive c.args.links.now ks a) c.deref.ensures.value arrive))
    c.of_links.ensures
