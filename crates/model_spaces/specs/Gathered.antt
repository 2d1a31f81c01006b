-- Private: offsets that are gathered one by one.
use Rattle.std.specs.Prelude.{◌≡◌, ◌||◌, nat_lt, List, [], ◌∷◌, ◌++◌, map, length, ℤ, fold, codes}
use Rattle.std.specs.Prelude.{if◌then◌else◌}
use Rattle.std.specs.List.{filter, flat_map, list_any}
use Rattle.std.specs.Str.{bytes_eq}
use Rattle.quantity.specs.declared.place.Offset.{Offset}
use Rattle.quantity.specs.declared.bounds.TheConstants.{MAX_OFFSETS}
use Rattle.cell_grid.specs.Space.{Space}
use Rattle.cell_grid.specs.Places.{is_offset}
use Rattle.rule_tree.specs.Scope.{offset_of, same_offset}
use Rattle.ma_lines.specs.declared.section.Entry.{Entry}
use Rattle.ma_lines.specs.Sections.{Section}
use Rattle.model_text.specs.Spaces.{space_of, places_of}
use Rattle.model_walk.specs.LeastOf.{IsLeastOf}
use Rattle.model_spaces.specs.declared.offsets.ReadOffsets.{ReadOffsets}
use Rattle.model_spaces.specs.Tested.{neighbors_refused, IsLeastWith}

-- one more offset, unless it is there already or there are too many
abbrev pub offsets_with : List Offset → Offset → List Offset
offsets_with found o =
    if nat_lt MAX_OFFSETS (length found) || list_any (λ p. same_offset p o) found then found
    else found ++ o ∷ []

-- offsets after these, one after another
abbrev pub offsets_with_all : List Offset → List Offset → List Offset
offsets_with_all found os = fold offsets_with found os

-- the offsets among places
abbrev pub offsets_among : Space → List (List ℤ) → List Offset
offsets_among space places = map offset_of (filter (is_offset space) places)

-- the offsets in the entries
abbrev pub offsets_in : Section → List Entry → List Offset
offsets_in s es =
    offsets_among (space_of s)
    (flat_map (places_of s) (filter (λ (e : Entry). bytes_eq e.key (codes "neighbors")) es))

-- the offsets of these entries are gathered behind the others
pub record AddsOffsets (s : Section) (old new : ReadOffsets) (es : List Entry) : Type 0 where
  pub offsets : new.offsets.items ≡ offsets_with_all old.offsets.items (offsets_in s es)
  pub refused : IsLeastWith old.refused (neighbors_refused s es) new.refused

-- what is read of these entries
pub record ReadsOffsets (s : Section) (es : List Entry) (read : ReadOffsets) : Type 0 where
  pub offsets : read.offsets.items ≡ offsets_with_all [] (offsets_in s es)
  pub refused : IsLeastOf (neighbors_refused s es) read.refused
