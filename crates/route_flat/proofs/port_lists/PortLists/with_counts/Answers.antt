use Rattle.std.proofs.Common.{sym}
use Rattle.port_net.specs.Nodes.{sources_at, part_in_span}
use Rattle.route_flat.proofs.Spans.{of-lists, first-parts, last-parts, flat-same, within-same, same-count}
use Rattle.route_flat.proofs.port_lists.PortLists.with_counts.Goals as goal

pub invariant_of-result : goal.invariant_of-result
invariant_of-result c =
    let n = c.args.net in
    let a = of-lists c.deref.result.now n.nodes.items c.deref-2.result.now n.ports.items c.new-paths.result.items c.lists.new.paths.items c.in_ok-ports.ports.items c.deref.ensures.value c.deref-2.ensures.value c.in_ok-ports.ensures in
    let b = of-lists c.deref-3.result.now n.nodes.items c.deref-4.result.now n.outputs.items c.lists.new.paths.items c.lists-2.new.paths.items c.in_ok-outputs.outputs.items c.deref-3.ensures.value c.deref-4.ensures.value c.in_ok-outputs.ensures in
    let ports = first-parts n.nodes.items n.ports.items n.outputs.items c.new-paths.result.items c.lists.new.paths.items c.lists-2.new.paths.items c.in_ok-ports.ports.items c.in_ok-outputs.outputs.items a b in
    let outputs = last-parts n.nodes.items n.outputs.items c.lists.new.paths.items c.lists-2.new.paths.items c.in_ok-outputs.outputs.items b in
    record {
      leaves = rw c.of.ensures (within-same n.ports.items c.in_ok-ports.ports.items n.leaves.items (sym (same-count (part_in_span c.lists-2.new.paths.items) (sources_at n.nodes.items) c.in_ok-ports.ports.items n.ports.items ports.1)) c.requires.parted.within);
      ports = ports.0;
      outputs = outputs.0;
    }

pub returns-clause-built : goal.returns-clause-built
returns-clause-built c =
    let n = c.args.net in
    let a = of-lists c.deref.result.now n.nodes.items c.deref-2.result.now n.ports.items c.new-paths.result.items c.lists.new.paths.items c.in_ok-ports.ports.items c.deref.ensures.value c.deref-2.ensures.value c.in_ok-ports.ensures in
    let b = of-lists c.deref-3.result.now n.nodes.items c.deref-4.result.now n.outputs.items c.lists.new.paths.items c.lists-2.new.paths.items c.in_ok-outputs.outputs.items c.deref-3.ensures.value c.deref-4.ensures.value c.in_ok-outputs.ensures in
    let ports = first-parts n.nodes.items n.ports.items n.outputs.items c.new-paths.result.items c.lists.new.paths.items c.lists-2.new.paths.items c.in_ok-ports.ports.items c.in_ok-outputs.outputs.items a b in
    let outputs = last-parts n.nodes.items n.outputs.items c.lists.new.paths.items c.lists-2.new.paths.items c.in_ok-outputs.outputs.items b in
    rw c.of.ensures (flat-same n c.in_ok-ports.ports.items c.in_ok-outputs.outputs.items c.lists-2.new.paths.items ports.1 outputs.1)
