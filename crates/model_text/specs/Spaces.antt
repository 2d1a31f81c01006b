-- The spaces of groups, their neighbourhoods and their zones.
use Rattle.std.specs.Prelude.{ℕ, ◌+◌, ◌==◌, Bool, false, not, ◌&&◌, nat_lt, Option, Some, None, List, [], ◌∷◌, ◌++◌, map, length, ℤ, pos, unsigned_abs, if◌then◌else◌, codes}
use Rattle.std.specs.List.{filter, filter_map, flat_map, list_all, list_any}
use Rattle.std.specs.Option.{option_map, option_and_then, option_or, is_some, unwrap_or}
use Rattle.std.specs.Str.{bytes_eq}
use Rattle.quantity.specs.declared.bounds.TheConstants.{MAX_CELLS, MAX_OFFSETS}
use Rattle.quantity.specs.declared.place.Offset.{Offset}
use Rattle.cell_grid.specs.Space.{Space, cell_count}
use Rattle.cell_grid.specs.Region.{Region}
use Rattle.cell_grid.specs.declared.grid.Border.{Border}
use Rattle.cell_grid.specs.declared.grid.Border.TheVariants.{Wrapped, NoWrapped}
use Rattle.quantity.specs.Bytes.{Bytes}
use Rattle.quantity.specs.Digits.{whole_number}
use Rattle.source_text.specs.Tuples.{tuple, NamedTuple}
use Rattle.model_text.specs.declared.kind.Kind.TheVariants.{BadValue, BadZone, BadInitial, TooLarge}
use Rattle.model_text.specs.Refusals.{Refusal, refusal}
use Rattle.ma_lines.specs.declared.section.Entry.{Entry}
use Rattle.ma_lines.specs.Sections.{Section}
use Rattle.rule_tree.specs.Scope.{offset_of, same_offset}
use Rattle.model_text.specs.Keyed.{entries_of, value_of, is_this_value, least_refusal, at_entry, each_entry}
use Rattle.model_text.specs.Walk.{groups}
use Rattle.model_text.specs.Forms.{tuples_of, PortRuleText, port_rule_text}
use Rattle.cell_grid.specs.Places.{is_offset, cell_in}
use Rattle.cell_grid.specs.ZoneTexts.{zone_in}
use Rattle.cell_grid.specs.Initial.{Row, row_digits, row_values}

-- ---- the space of a group

-- not wrapped, unless the group says so
abbrev pub border_of : Section → Border
border_of s =
    if is_this_value (codes "wrapped") (value_of (codes "border") s) then Wrapped else NoWrapped

-- of rows, columns and perhaps planes
abbrev pub space_of_sizes : Border → List ℤ → Space
space_of_sizes b (r ∷ c ∷ []) =
    record { rows = unsigned_abs r; columns = unsigned_abs c; planes = None; border = b }
space_of_sizes b (r ∷ c ∷ p ∷ rest) =
    record {
      rows = unsigned_abs r;
      columns = unsigned_abs c;
      planes = Some (unsigned_abs p);
      border = b;
    }
space_of_sizes b sizes = record { rows = 0; columns = 0; planes = None; border = b }

-- the size under a key
abbrev pub size_of : Bytes → Section → ℤ
size_of key s = pos (unwrap_or (option_and_then (whole_number 7) (value_of key s)) 0)

-- by dim, or else by height and width
abbrev pub sizes_of : Section → List ℤ
sizes_of s =
    unwrap_or (option_and_then tuple (value_of (codes "dim") s))
    (size_of (codes "height") s ∷ size_of (codes "width") s ∷ [])

-- the space of a group
abbrev pub space_of : Section → Space
space_of s = space_of_sizes (border_of s) (sizes_of s)

-- ---- the number of cells

-- the first group with which all cells are too many
abbrev pub first_large : ℕ → List Section → Option Refusal
first_large cells [] = None
first_large cells (g ∷ gs) =
    let more = cells + cell_count (space_of g) in
    option_or (if nat_lt MAX_CELLS more then Some (refusal g.line TooLarge) else None)
    (first_large more gs)

-- more than MAX_CELLS cells in all groups
abbrev pub cells_refused : List Section → Option Refusal
cells_refused ss = first_large 0 (groups ss)

-- ---- offsets

-- the tuples of an entry
abbrev pub places_of : Section → Entry → List (List ℤ)
places_of s e = map (λ (t : NamedTuple). t.place) (unwrap_or (tuples_of s.name e.value) [])

-- each once, where it stands first
abbrev pub distinct_offsets : List Offset → List Offset
distinct_offsets [] = []
distinct_offsets (o ∷ os) = o ∷ filter (λ p. not (same_offset o p)) (distinct_offsets os)

-- the offsets of a group, without those off its space
abbrev pub offsets_of : Section → List Offset
offsets_of s =
    distinct_offsets
    (map offset_of
    (filter (is_offset (space_of s))
    (flat_map (places_of s) (entries_of (codes "neighbors") s))))

-- ---- rules for ports

-- a port of a cell, where the cell is in the space, and the name of its rules
pub record PortPlace : Type 0 where
  pub port : Bytes
  pub cell : Option ℕ
  pub rules : Bytes

-- that of an entry
abbrev pub port_place : Section → Entry → Option PortPlace
port_place s e =
    option_map
    (λ (p : PortRuleText).
    record { port = p.port; cell = cell_in (space_of s) p.place; rules = p.rules })
    (port_rule_text s.name e.value)

-- those of a group
abbrev pub port_places : Section → List PortPlace
port_places s = filter_map (port_place s) (entries_of (codes "portintransition") s)

-- both are there and are one cell
abbrev pub same_cell : Option ℕ → Option ℕ → Bool
same_cell None b = false
same_cell (Some n) None = false
same_cell (Some n) (Some m) = n == m

-- one port of one cell
abbrev pub same_place : PortPlace → PortPlace → Bool
same_place p q = bytes_eq p.port q.port && same_cell p.cell q.cell

-- a port of a cell in the space, that none of those before is
abbrev pub is_new_place : List PortPlace → Option PortPlace → Bool
is_new_place before None = false
is_new_place before (Some p) = is_some p.cell && not (list_any (same_place p) before)

-- the entries that name no new port of a cell, after these
abbrev pub ports_refused : Section → List PortPlace → List Entry → List Refusal
ports_refused s before [] = []
ports_refused s before (e ∷ es) =
    at_entry e BadValue (is_new_place before (port_place s e))
    ++ ports_refused s (before ++ filter_map (port_place s) (e ∷ [])) es

-- ---- the phase

-- the zones of a group
abbrev pub zones_of : Section → List Region
zones_of s = filter_map (λ (e : Entry). zone_in (space_of s) e.value) (entries_of (codes "zone") s)

-- a row entry of either key
abbrev pub row_in : Section → Entry → Option Row
row_in s e =
    if bytes_eq e.key (codes "initialrowvalue") then row_digits (space_of s) e.value
    else if bytes_eq e.key (codes "initialrow") then row_values (space_of s) e.value
    else None

-- the rows of values of a group, by line
abbrev pub rows_of : Section → List Row
rows_of s = filter_map (row_in s) s.entries

-- more offsets than a group may have
abbrev pub too_many_offsets : Section → List Refusal
too_many_offsets s = if nat_lt MAX_OFFSETS (length (offsets_of s)) then refusal s.line TooLarge ∷ [] else []

-- what is refused of the space of a group
abbrev pub of_space : Section → List Refusal
of_space s =
    each_entry (codes "neighbors") s
    (λ e. at_entry e BadValue (list_all (is_offset (space_of s)) (places_of s e)))
    ++ ports_refused s [] (entries_of (codes "portintransition") s)
    ++ each_entry (codes "zone") s
    (λ e. at_entry e BadZone (is_some (zone_in (space_of s) e.value)))
    ++ each_entry (codes "initialrowvalue") s (λ e. at_entry e BadInitial (is_some (row_in s e)))
    ++ each_entry (codes "initialrow") s (λ e. at_entry e BadInitial (is_some (row_in s e)))
    ++ too_many_offsets s

-- the least refusal of all spaces
abbrev pub spaces_refused : List Section → Option Refusal
spaces_refused ss = least_refusal (flat_map of_space (groups ss))
