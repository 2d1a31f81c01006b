use Rattle.std.proofs.Common.{◌≡◌, map}
use Rattle.std.specs.List.{range_with_len}
use Rattle.cell_grid.specs.Space.{cell_count}
use Rattle.model_tree.proofs.CellNames.{after}
use Rattle.model_tree.proofs.group.CellGroup.ports_of_cells.Given as goal

abbrev pub invariant-loop-link : goal.invariant-loop-link
invariant-loop-link l = map (λ v. v.items) l.all.items ≡ map (after l.self.links.items l.link-index) (range_with_len 0 (cell_count l.self.grid))
