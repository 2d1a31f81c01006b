-- Private: zones that are added entry by entry.
use Rattle.std.specs.Prelude.{◌≡◌, List, ◌++◌, map, codes}
use Rattle.std.specs.List.{filter, filter_map}
use Rattle.std.specs.Str.{bytes_eq}
use Rattle.cell_grid.specs.Region.{Region}
use Rattle.cell_grid.specs.ZoneTexts.{zone_in}
use Rattle.ma_lines.specs.declared.section.Entry.{Entry}
use Rattle.ma_lines.specs.Sections.{Section}
use Rattle.model_text.specs.Keyed.{Item}
use Rattle.model_text.specs.Rules.{zone_item}
use Rattle.model_text.specs.Spaces.{space_of}
use Rattle.model_walk.specs.Shown.{item_of}
use Rattle.model_walk.specs.LeastOf.{IsLeastOf}
use Rattle.model_spaces.specs.declared.zones.NamedZones.{NamedZones}
use Rattle.model_spaces.specs.Tested.{zones_refused, IsLeastWith}

-- the entries of zones
abbrev pub zone_entries : List Entry → List Entry
zone_entries es = filter (λ (e : Entry). bytes_eq e.key (codes "zone")) es

-- the zones of these entries
abbrev pub zones_among : Section → List Entry → List Region
zones_among s es = filter_map (λ (e : Entry). zone_in (space_of s) e.value) (zone_entries es)

-- and the names of their rules
abbrev pub names_among : Section → List Entry → List Item
names_among s es = filter_map (zone_item s) (zone_entries es)

-- the zones of these entries stand behind the others
pub record AddsZones (s : Section) (old new : NamedZones) (es : List Entry) : Type 0 where
  pub zones : new.zones ≡ old.zones ++ zones_among s es
  pub rules : map item_of new.rules.items ≡ map item_of old.rules.items ++ names_among s es
  pub refused : IsLeastWith old.refused (zones_refused s es) new.refused

-- what is read of these entries
pub record ReadsZones (s : Section) (es : List Entry) (read : NamedZones) : Type 0 where
  pub zones : read.zones ≡ zones_among s es
  pub rules : map item_of read.rules.items ≡ names_among s es
  pub refused : IsLeastOf (zones_refused s es) read.refused
