use Rattle.std.proofs.Common.{◌+◌, [], List, refl, subst}
use Rattle.model_tree.specs.declared.link.Link.{Link}
use Rattle.model_tree.specs.Pull as P
use Rattle.port_net.specs.Shown.{leaf_list}
use Rattle.port_net.specs.Arriving.{Brings}
use Rattle.port_net.proofs.Coming.{group-gives}
use Rattle.port_net.proofs.outputs.outputs_of_group.Goals as goal

pub returns-clause-ok : goal.returns-clause-ok
returns-clause-ok c =
    record {
      first = refl;
      leaves = λ settings. c.cells.ensures.value;
      gives = λ ins settings port.
          group-gives c.arrivals.new.nodes.items c.args.group.now c.args.first settings ins c.in_ok-links.links port
          (subst (λ (ls : List Link). Brings ins c.arrivals.new.nodes.items c.in_ok-links.links (λ (l : Link). P.at_source l.from P.nothing (λ p child. []) (λ n. leaf_list (c.args.first + n))) ls) c.deref.ensures.value
          (c.in_ok-links.ensures.brings ins P.nothing c.args.first settings (λ p. refl) tt));
    }
