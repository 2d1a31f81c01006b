use Rattle.std.proofs.Common.{ℕ, ℤ, List, take}
use Rattle.model_tree.specs.Tree.{Word}
use Rattle.model_tree.specs.Pull.{Source}
use Rattle.port_net.specs.Shown.{AllGive, Extends}
use Rattle.port_net.specs.Outside.{PortsAre, InsideIs, brought_by}
use Rattle.port_net.proofs.sources.link_nodes.Given as goal

abbrev pub invariant-loop-link : goal.invariant-loop-link
invariant-loop-link l =
    record {
      extends : Extends l.fn.nodes.items l.nodes.items;
      gives : (ins : List Word) (lists : Word → List Source) (first : ℕ) (settings : ℕ → List ℤ) → PortsAre ins l.fn.nodes.items l.own lists → InsideIs l.fn.nodes.items l.inside first
          → AllGive ins l.nodes.items l.ks.items (brought_by l.inside settings first lists (take l.link-index l.links));
    }
