use Rattle.std.proofs.Common.{◌≡◌, map}
use Rattle.std.specs.List.{range_with_len}
use Rattle.model_tree.specs.Pull.{cell_ports}
use Rattle.model_tree.specs.Stands.{group_of}
use Rattle.model_leaves.specs.Table.{seat_at}
use Rattle.model_leaves.specs.Growing.{AtPart, Grows}
use Rattle.model_leaves.proofs.growing.Growing.cells.Given as goal

abbrev pub invariant-loop-cell : goal.invariant-loop-cell
invariant-loop-cell l =
    record {
      ok : AtPart l.fn.self.parts.items l.part (λ p. Grows l.fn.self l.self (map (λ n. seat_at p.at p.name n (cell_ports (group_of l.group) n)) (range_with_len 0 l.cell)));
      parts : l.self.parts.items ≡ l.fn.self.parts.items;
      groups : l.self.groups ≡ l.fn.self.groups;
    }
