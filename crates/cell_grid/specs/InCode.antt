-- The zone that one in code stands for.
use Rattle.cell_grid.specs.declared.zones.Zone.{Zone}
use Rattle.cell_grid.specs.Region.{Region}

-- a zone in code as a zone of the definitions
abbrev pub region_of : Zone → Region
region_of z = record { name = z.name; ranges = z.ranges.items }
