use Rattle.std.proofs.Common.{◌≡◌, ℕ, ◌<◌, ◌≤◌, length, get_or, drop}
use Rattle.std.specs.List.{list_any, position_from}
use Rattle.cell_grid.specs.declared.zones.Zone.{Zone}
use Rattle.cell_grid.specs.Space.{cell_count, place_of}
use Rattle.cell_grid.specs.Zones.{range_holds}
use Rattle.cell_grid.specs.Numbered.{zone_number}
use Rattle.cell_grid.proofs.laying.lay_all.Given as goal

abbrev pub invariant-zones : goal.invariant-zones
invariant-zones l = record {
  few : l.left ≤ length l.zones;
  laid : (cell : ℕ) → cell < cell_count l.grid
      → get_or l.into cell 0 ≡ zone_number l.numbers (get_or l.fn.into cell 0) (position_from (λ (zone : Zone). list_any (range_holds (place_of l.grid cell)) zone.ranges.items) l.left (drop l.left l.zones));
}

abbrev pub decreases-zones : goal.decreases-zones
decreases-zones l = l.left
