use Rattle.std.proofs.Common.{ℕ, List, map, take}
use Rattle.model_tree.specs.Tree.{Word}
use Rattle.model_tree.specs.Pull.{Source, is_cell}
use Rattle.port_net.specs.Shown.{Extends, Join}
use Rattle.port_net.specs.Arriving.{nodes_to}
use Rattle.port_net.specs.Rows.{Grows, cell_rows}
use Rattle.port_net.proofs.rows.put_cells.Given as goal

abbrev pub invariant-loop-i : goal.invariant-loop-i
invariant-loop-i l =
    record {
      extends : Extends l.fn.net.nodes.items l.net.nodes.items;
      takes : (ins : List Word) (lists : ℕ → Word → List Source) → ((cell : ℕ) (port : Word) → Join ins l.fn.net.nodes.items (nodes_to l.links (is_cell port cell)) (lists cell port))
          → Grows ins l.fn.net l.net (cell_rows lists (map (λ v. v.items) (take l.i l.names)));
    }
