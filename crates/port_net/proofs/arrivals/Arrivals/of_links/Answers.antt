use Rattle.std.proofs.Common.{ap}
use Rattle.port_net.specs.Arriving.{end_of, nodes_to}
use Rattle.port_net.proofs.Standing.{pick-more, pick-all}
use Rattle.port_net.proofs.arrivals.Arrivals.of_links.Goals as goal

pub loop-i-preserved : goal.loop-i-preserved
loop-i-preserved c = λ into x t.
    pick-more into c.args.links.now c.args.nodes.now c.loop-i.i c.index-links-i.result c.node_in.result (into (end_of c.in_ok-place_of.field-0))
    (nodes_to c.loop-i.all into) (nodes_to c.add.new.self into) _
    c.loop-i-test.true c.index-links-i.is c.node_in.ensures (ap into c.in_ok-place_of.ensures) (c.in_ok-add.ensures into x t) (c.loop-i.invariant into x t)

pub returns : goal.returns
returns c = λ into x t.
    pick-all into c.args.links.now c.args.nodes.now (nodes_to c.loop-i.all into) _ c.loop-i.i c.loop-i-test.false (c.loop-i.invariant into x t)
