use Rattle.std.proofs.Common.{subst}
use Rattle.std.proofs.lemmas.Result.{IfOk-weaker}
use Rattle.port_net.specs.declared.ports.Ports.{Ports}
use Rattle.port_net.specs.Outside.{PortsAre}
use Rattle.port_net.proofs.Standing.{nothing-given, linked-given, input-given}
use Rattle.port_net.proofs.sources.node_at.Goals as goal

pub returns-in-Nothing-clause-gives : goal.returns-in-Nothing-clause-gives
returns-in-Nothing-clause-gives c =
    IfOk-weaker c.join.result _ _
    (λ k h. nothing-given c.args.nodes.now.items c.join.new.nodes.items k c.args.ports.now c.args.port.now c.new.result.items c.new.ensures.items c.in-Nothing.is h)
    c.join.ensures.joins

pub returns-in-Inputs-clause-gives : goal.returns-in-Inputs-clause-gives
returns-in-Inputs-clause-gives c =
    IfOk-weaker c.place_among.result _ _
    (λ k h. input-given c.args.nodes.now.items c.args.nodes.now.items k c.args.ports.now c.args.port.now c.in-Inputs.names.now
    (λ ins lists are. subst (λ (p : Ports). PortsAre ins c.args.nodes.now.items p lists) c.in-Inputs.is are) h)
    c.place_among.ensures

pub returns-in_ok-older-in-Linked-clause-gives : goal.returns-in_ok-older-in-Linked-clause-gives
returns-in_ok-older-in-Linked-clause-gives c =
    IfOk-weaker c.join-in-Linked.result _ _
    (λ k h. linked-given c.args.nodes.now.items c.join-in-Linked.new.nodes.items k c.args.ports.now c.args.port.now c.in_ok-older-in-Linked.older.items c.in-Linked.links.now c.in-Linked.at c.in_ok-older-in-Linked.ensures
    (λ ins lists are. subst (λ (p : Ports). PortsAre ins c.args.nodes.now.items p lists) c.in-Linked.is are) h)
    c.join-in-Linked.ensures.joins
