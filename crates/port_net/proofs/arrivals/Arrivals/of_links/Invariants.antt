use Rattle.std.proofs.Common.{◌≡◌, ◌++◌, drop, Bool}
use Rattle.model_tree.specs.declared.link.End.{End}
use Rattle.port_net.specs.Shown.{items_of_links}
use Rattle.port_net.specs.Arriving.{nodes_to, IsTestFor}
use Rattle.port_net.proofs.arrivals.Arrivals.of_links.Given as goal

abbrev pub invariant-loop-i : goal.invariant-loop-i
invariant-loop-i l =
    (into : End → Bool) (x : End) → IsTestFor into x → nodes_to l.all into ++ items_of_links into (drop l.i l.links) (drop l.i l.nodes) ≡ items_of_links into l.links l.nodes
