-- The neighbourhoods of all cells of a space: who their neighbours are, and who watches them.
use Rattle.std.specs.Prelude.{◌≡◌, ℕ, Bool, ◌&&◌, nat_lt, Option, Some, List, map, ℤ, pos, ◌+ℤ◌, ◌*ℤ◌, ◌≤ℤ◌, ◌<ℤ◌, unsigned_abs}
use Rattle.std.specs.List.{All}
use Rattle.quantity.specs.declared.place.Offset.{Offset}
use Rattle.quantity.specs.declared.place.Place.{Place}
use Rattle.quantity.specs.Bytes.{has_number}
use Rattle.cell_grid.specs.Space.{Space, plane_count, cell_count, neighbour}
use Rattle.cell_grid.specs.Watched.{IsInside, opposite, leads_to}

-- a space, and the offsets by which each cell has neighbours
pub record Neighbourhood : Type 0 where
  pub space : Space
  pub offsets : List Offset

-- the neighbours of a cell in the order of the offsets
abbrev pub neighbours : Neighbourhood → ℕ → List (Option ℕ)
neighbours n cell = map (neighbour n.space cell) n.offsets

-- ---- watchers

-- the neighbourhood of the opposite offsets: by each the cell is found that has this cell as its
-- neighbour by the offset itself
abbrev pub opposite_neighbourhood : Neighbourhood → Neighbourhood
opposite_neighbourhood n = record { space = n.space; offsets = map opposite n.offsets }

-- whether x has the cell as a neighbour
abbrev pub is_watcher : Neighbourhood → ℕ → ℕ → Bool
is_watcher n cell x = nat_lt x (cell_count n.space) && leads_to n.space n.offsets cell x

-- exactly the cells that have this cell as a neighbour, in any order and perhaps more than once
abbrev pub AreWatchers : Neighbourhood → ℕ → List ℕ → Type 0
AreWatchers n cell found = (x : ℕ) → has_number found x ≡ is_watcher n cell x

-- ---- away from the edges

-- a coordinate that is moved is still one below the size
abbrev pub Stays : ℕ → ℕ → ℤ → Type 0
Stays size at step = (pos 0 ≤ℤ (pos at +ℤ step)) × ((pos at +ℤ step) <ℤ pos size)

-- an offset leads past no edge
abbrev pub StaysInside : Space → Place → Offset → Type 0
StaysInside s p o =
    Stays s.rows p.row o.row × Stays s.columns p.column o.column
    × Stays (plane_count s) p.plane o.plane

-- a place of the space from which no offset leads past an edge
pub record StandsInside (n : Neighbourhood) (p : Place) : Type 0 where
  pub inside : IsInside n.space p
  pub stays : All (StaysInside n.space p) n.offsets

-- how far on a neighbour's number is, where its offset leads past no edge
abbrev pub difference : Space → Offset → ℤ
difference s o = (o.row *ℤ pos s.columns +ℤ o.column) *ℤ pos (plane_count s) +ℤ o.plane

-- the number so far on from a cell's
abbrev pub further : ℕ → ℤ → ℕ
further cell d = unsigned_abs (pos cell +ℤ d)

-- the number so far on from a cell's is a cell's
abbrev pub LeadsInside : Space → ℕ → ℤ → Type 0
LeadsInside s cell d = (pos 0 ≤ℤ (pos cell +ℤ d)) × ((pos cell +ℤ d) <ℤ pos (cell_count s))

-- how far on the number of each neighbour is from the cell's, in the order of the offsets
pub record AreDifferences (n : Neighbourhood) (cell : ℕ) (ds : List ℤ) : Type 0 where
  pub inside : All (LeadsInside n.space cell) ds
  pub lead : neighbours n cell ≡ map (λ d. Some (further cell d)) ds
