use Rattle.std.proofs.Common.{◌≡◌, length}
use Rattle.source_text.specs.Tuples.{parts_of}
use Rattle.cell_grid.specs.Reading.{ranges_of_parts}
use Rattle.cell_grid.proofs.Gathered.{behind}
use Rattle.cell_grid.proofs.zone_text.ranges_in.Given as goal

abbrev pub invariant-parts : goal.invariant-parts
invariant-parts l = ranges_of_parts l.grid (parts_of l.fn.items) ≡ behind l.ranges.items (ranges_of_parts l.grid (parts_of l.left))

abbrev pub decreases-parts : goal.decreases-parts
decreases-parts l = length l.left
