use Rattle.std.proofs.Common.{◌≡◌, ◌+◌, take}
use Rattle.port_net.specs.Shown.{Extends}
use Rattle.port_net.specs.Outside.{AllOutputs, leaves_of}
use Rattle.port_net.proofs.outputs.+outputs.Given as goal

abbrev pub invariant-outputs_of_all-loop-child : goal.invariant-outputs_of_all-loop-child
invariant-outputs_of_all-loop-child l =
    record {
      extends : Extends l.fn.nodes.items l.nodes.items;
      ok : AllOutputs l.nodes.items (take l.child-index l.children) l.first l.outs.items;
      next : l.next ≡ l.first + leaves_of l.outs.items;
    }
