-- Private: ports of cells that are added entry by entry.
use Rattle.std.specs.Prelude.{◌≡◌, Bool, false, not, ◌&&◌, ◌||◌, Option, Some, None, List, [], ◌∷◌, ◌++◌, map, codes}
use Rattle.std.specs.List.{filter, filter_map, flat_map, list_any}
use Rattle.std.specs.Option.{is_some}
use Rattle.std.specs.Str.{bytes_eq}
use Rattle.ma_lines.specs.declared.section.Entry.{Entry}
use Rattle.ma_lines.specs.Sections.{Section}
use Rattle.model_text.specs.declared.kind.Kind.TheVariants.{BadValue}
use Rattle.model_text.specs.Refusals.{Refusal}
use Rattle.model_text.specs.Keyed.{Item, at_entry}
use Rattle.model_text.specs.Rules.{port_item}
use Rattle.model_text.specs.Spaces.{PortPlace, port_place, same_place, ports_refused}
use Rattle.model_walk.specs.LeastOf.{IsLeastOf}
use Rattle.model_walk.specs.Placed.{place_shown, rule_shown}
use Rattle.model_walk.specs.declared.placed.PlacedRule.{PlacedRule}
use Rattle.model_spaces.specs.declared.ports.CellPort.{CellPort}
use Rattle.model_spaces.specs.declared.ports.ReadPorts.{ReadPorts}
use Rattle.model_spaces.specs.Tested.{IsLeastWith}

-- what a port of a cell stands for, whatever its rules
abbrev pub port_shown : CellPort → PortPlace
port_shown k = record { port = k.port.now; cell = Some k.cell; rules = [] }

-- whether a port of a cell was seen
abbrev pub is_seen : List CellPort → PortPlace → Bool
is_seen seen p = list_any (λ k. same_place p (port_shown k)) seen

-- whether a port is one of a cell in the space that wasn't seen
abbrev pub is_unseen : List CellPort → Option PortPlace → Bool
is_unseen seen None = false
is_unseen seen (Some p) = is_some p.cell && not (is_seen seen p)

-- the ports that stand in the list were seen, and no others
abbrev pub AreSeen : List CellPort → List PortPlace → Type 0
AreSeen seen ps = (p : PortPlace) → is_seen seen p ≡ list_any (same_place p) ps

-- these were seen beside the others
abbrev pub AddsSeen : List CellPort → List CellPort → List PortPlace → Type 0
AddsSeen old new ps =
    (p : PortPlace) → is_seen new p ≡ (is_seen old p || list_any (same_place p) ps)

-- the entries of ports
abbrev pub port_entries : List Entry → List Entry
port_entries es = filter (λ (e : Entry). bytes_eq e.key (codes "portintransition")) es

-- the ports of these entries, and the names of their rules
abbrev pub places_among : Section → List Entry → List PortPlace
places_among s es = filter_map (port_place s) (port_entries es)

abbrev pub items_among : Section → List Entry → List Item
items_among s es = filter_map (port_item s) (port_entries es)

-- what is refused of an entry after those that were seen
abbrev pub refused_after : Section → List CellPort → Entry → List Refusal
refused_after s seen e =
    flat_map (λ (e : Entry). at_entry e BadValue (is_unseen seen (port_place s e)))
    (port_entries (e ∷ []))

-- the port of an entry, and the name of its rules, stand behind the others unless it is refused
abbrev pub AddsPlaces : Section → List CellPort → List PlacedRule → List PlacedRule → Entry → Type 0
AddsPlaces s seen old new e =
    refused_after s seen e ≡ []
    → map place_shown new ≡ map place_shown old ++ places_among s (e ∷ [])

abbrev pub AddsItems : Section → List CellPort → List PlacedRule → List PlacedRule → Entry → Type 0
AddsItems s seen old new e =
    refused_after s seen e ≡ [] → map rule_shown new ≡ map rule_shown old ++ items_among s (e ∷ [])

-- the port of an entry, where it has the key, stands behind the others unless it is refused
pub record AddsPort (s : Section) (old new : ReadPorts) (e : Entry) : Type 0 where
  pub seen : AddsSeen old.seen.keys new.seen.keys (places_among s (e ∷ []))
  pub refused : IsLeastWith old.refused (refused_after s old.seen.keys e) new.refused
  pub places : AddsPlaces s old.seen.keys old.rules.items new.rules.items e
  pub rules : AddsItems s old.seen.keys old.rules.items new.rules.items e

-- what is read of these entries
pub record ReadsPorts (s : Section) (es : List Entry) (read : ReadPorts) : Type 0 where
  pub seen : AreSeen read.seen.keys (places_among s es)
  pub refused : IsLeastOf (ports_refused s [] (port_entries es)) read.refused
  pub places : ports_refused s [] (port_entries es) ≡ []
      → map place_shown read.rules.items ≡ places_among s es
  pub rules : ports_refused s [] (port_entries es) ≡ []
      → map rule_shown read.rules.items ≡ items_among s es
