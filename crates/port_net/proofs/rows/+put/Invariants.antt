use Rattle.std.proofs.Common.{ℕ, ℤ, List, take}
use Rattle.model_tree.specs.Tree.{Word}
use Rattle.model_tree.specs.Pull.{Source, is_child}
use Rattle.port_net.specs.Shown.{Extends, Join}
use Rattle.port_net.specs.Arriving.{nodes_to}
use Rattle.port_net.specs.Outside.{AllOutputs}
use Rattle.port_net.specs.Rows.{Grows, taken_by}
use Rattle.port_net.proofs.rows.+put.Given as goal

abbrev pub invariant-put_all-loop-i : goal.invariant-put_all-loop-i
invariant-put_all-loop-i l =
    record {
      extends : Extends l.fn.net.nodes.items l.net.nodes.items;
      takes : (ins : List Word) (settings : ℕ → List ℤ) (first : ℕ) (own : Word → Word → List Source) → AllOutputs l.fn.net.nodes.items l.children first l.outs
          → ((child port : Word) → Join ins l.fn.net.nodes.items (nodes_to l.links (is_child port child)) (own child port))
          → Grows ins l.fn.net l.net (taken_by (take l.i l.children) settings first own);
    }
