-- Private: entries of a group that are tested one by one.
use Rattle.std.specs.Prelude.{◌≡◌, Bool, Option, List, codes}
use Rattle.std.specs.List.{filter, flat_map, list_all}
use Rattle.std.specs.Option.{is_some, option_map}
use Rattle.std.specs.Str.{bytes_eq}
use Rattle.quantity.specs.Bytes.{Bytes}
use Rattle.cell_grid.specs.Places.{is_offset}
use Rattle.cell_grid.specs.ZoneTexts.{zone_in}
use Rattle.ma_lines.specs.declared.section.Entry.{Entry}
use Rattle.ma_lines.specs.Sections.{Section}
use Rattle.model_text.specs.declared.kind.Kind.{Kind}
use Rattle.model_text.specs.declared.kind.Kind.TheVariants.{BadValue, BadZone, BadInitial}
use Rattle.model_text.specs.Refusals.{Refusal}
use Rattle.model_text.specs.Keyed.{at_entry, least_refusal}
use Rattle.model_text.specs.Spaces.{space_of, places_of, row_in}
use Rattle.model_walk.specs.declared.refused.Refused.{Refused}
use Rattle.model_walk.specs.Shown.{refusal_of}
use Rattle.model_walk.specs.Least.{earlier_refusal}

-- those of these entries with a key that are refused, where a test fails
abbrev pub refused_among : Bytes → Kind → (Entry → Bool) → List Entry → List Refusal
refused_among key kind is_right es =
    flat_map (λ (e : Entry). at_entry e kind (is_right e))
    (filter (λ (e : Entry). bytes_eq e.key key) es)

-- whether all tuples of an entry are offsets
abbrev pub are_offsets : Section → Entry → Bool
are_offsets s e = list_all (is_offset (space_of s)) (places_of s e)

-- the entries of neighbourhoods that are refused
abbrev pub neighbors_refused : Section → List Entry → List Refusal
neighbors_refused s es = refused_among (codes "neighbors") BadValue (are_offsets s) es

-- those of zones
abbrev pub zones_refused : Section → List Entry → List Refusal
zones_refused s es =
    refused_among (codes "zone") BadZone (λ e. is_some (zone_in (space_of s) e.value)) es

-- those of rows of digits
abbrev pub digits_refused : Section → List Entry → List Refusal
digits_refused s es =
    refused_among (codes "initialrowvalue") BadInitial (λ e. is_some (row_in s e)) es

-- those of rows of values
abbrev pub values_refused : Section → List Entry → List Refusal
values_refused s es =
    refused_among (codes "initialrow") BadInitial (λ e. is_some (row_in s e)) es

-- the lesser of a refusal that was met before and of the least of these
abbrev pub IsLeastWith : Option Refused → List Refusal → Option Refused → Type 0
IsLeastWith old rs new =
    option_map refusal_of new ≡ earlier_refusal (option_map refusal_of old) (least_refusal rs)
