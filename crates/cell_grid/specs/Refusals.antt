-- Refusals of names as those of zones.
use Rattle.quantity.specs.declared.name.NameRefusal as names
use Rattle.quantity.specs.declared.name.NameRefusal.TheVariants as name_variants
use Rattle.cell_grid.specs.declared.zones.ZoneRefusal.{ZoneRefusal}
use Rattle.cell_grid.specs.declared.zones.ZoneRefusal.TheVariants.{BadZone, Memory}

-- why a zone with such a name is refused
abbrev pub zone_refusal : names.NameRefusal → ZoneRefusal
zone_refusal name_variants.Bad = BadZone
zone_refusal name_variants.Memory = Memory
