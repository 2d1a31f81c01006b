use Rattle.std.proofs.Common.{List, map, take}
use Rattle.model_tree.specs.Tree.{Word}
use Rattle.model_tree.specs.Pull.{Source}
use Rattle.port_net.specs.Shown.{AllGive, Extends}
use Rattle.port_net.specs.Outside.{PortsAre}
use Rattle.port_net.proofs.sources.row.Given as goal

abbrev pub invariant-loop-name : goal.invariant-loop-name
invariant-loop-name l =
    record {
      extends : Extends l.fn.nodes.items l.nodes.items;
      gives : (ins : List Word) (lists : Word → List Source) → PortsAre ins l.fn.nodes.items l.ports lists → AllGive ins l.nodes.items l.ks.items (map lists (take l.name-index l.names));
    }
