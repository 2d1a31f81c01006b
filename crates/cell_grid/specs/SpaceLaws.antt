-- What holds of cells, their places, neighbours and watchers in each space.
use Rattle.std.specs.Prelude.{◌≡◌, ℕ, ◌<◌, ◌≤◌, ◌↔◌, Some, List, []}
use Rattle.std.specs.List.{Any, Contains}
use Rattle.std.specs.List.Sorted.{IsStrictlyIncreasing}
use Rattle.quantity.specs.declared.place.Offset.{Offset}
use Rattle.quantity.specs.declared.place.Place.{Place}
use Rattle.cell_grid.specs.Space.{Space, cell_count, place_of, cell_at_place, neighbour}
use Rattle.cell_grid.specs.Watched.{IsInside, opposite, watchers}

-- ---- numbers and places of cells are each other's inverse

-- the cell at the place of a cell is that cell
abbrev pub CellsAreAtTheirPlaces : Type 0
CellsAreAtTheirPlaces =
    (s : Space) (cell : ℕ) → cell < cell_count s → cell_at_place s (place_of s cell) ≡ Some cell

-- the place of the cell at a place is that place
abbrev pub PlacesAreThoseOfTheirCells : Type 0
PlacesAreThoseOfTheirCells =
    (s : Space) (p : Place) (cell : ℕ) → cell_at_place s p ≡ Some cell → place_of s cell ≡ p

-- a place has a cell just where it is inside, and its number is then that of a cell
abbrev pub PlacesInsideHaveCells : Type 0
PlacesInsideHaveCells =
    (s : Space) (p : Place)
    → IsInside s p ↔ ((cell : ℕ) × (cell_at_place s p ≡ Some cell) × (cell < cell_count s))

-- ---- an offset leads from one cell to another just where its opposite leads back

-- a neighbour has the cell as its opposite neighbour
abbrev pub OppositesLeadBack : Type 0
OppositesLeadBack =
    (s : Space) (x cell : ℕ) (o : Offset) → x < cell_count s → cell < cell_count s
    → (neighbour s x o ≡ Some cell) ↔ (neighbour s cell (opposite o) ≡ Some x)

-- ---- a cell's watchers are the cells that have it as a neighbour, each of them once

-- a cell watches another exactly where it has it as a neighbour
abbrev pub WatchersHaveTheCellAsANeighbour : Type 0
WatchersHaveTheCellAsANeighbour =
    (s : Space) (offsets : List Offset) (cell x : ℕ)
    → Contains (watchers s offsets cell) x
    ↔ ((x < cell_count s) × Any (λ o. neighbour s x o ≡ Some cell) offsets)

-- a number that is that of no cell has none
abbrev pub NoneWatchesOutside : Type 0
NoneWatchesOutside =
    (s : Space) (offsets : List Offset) (cell : ℕ)
    → cell_count s ≤ cell → watchers s offsets cell ≡ []

-- watchers come in rising order, none twice
abbrev pub WatchersRise : Type 0
WatchersRise =
    (s : Space) (offsets : List Offset) (cell : ℕ) → IsStrictlyIncreasing (watchers s offsets cell)
