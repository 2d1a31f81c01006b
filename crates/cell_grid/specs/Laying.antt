-- How zones are laid over the cells of a space. Private: no public clause cites this module.
use Rattle.std.specs.Prelude.{◌≡◌, ℕ, ◌+◌, ◌<◌, ◌≤◌, Bool, ◌&&◌, nat_le, nat_lt, List, slice_index, if◌then◌else◌}
use Rattle.quantity.specs.declared.place.Place.{Place}
use Rattle.cell_grid.specs.Space.{Space, cell_count, plane_count, place_of}

-- each cell at a place that passes has this number, and each other one the number that it had
abbrev pub Lays : (Place → Bool) → ℕ → Space → List ℕ → List ℕ → Type 0
Lays holds number s old new =
    (cell : ℕ) → cell < cell_count s
    → slice_index new cell ≡ (if holds (place_of s cell) then number else slice_index old cell)

-- one of so many numbers from the first on
abbrev pub is_from : ℕ → ℕ → ℕ → Bool
is_from first count n = nat_le first n && nat_lt n (first + count)

-- a place of the part of a space that begins at a place
abbrev pub in_part : Space → Place → Place → Bool
in_part part low p =
    is_from low.row part.rows p.row && is_from low.column part.columns p.column
    && is_from low.plane (plane_count part) p.plane

-- the part doesn't go past the edges
pub record Fits (part s : Space) (low : Place) : Type 0 where
  pub rows : low.row + part.rows ≤ s.rows
  pub columns : low.column + part.columns ≤ s.columns
  pub planes : low.plane + plane_count part ≤ plane_count s
