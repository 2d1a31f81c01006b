-- What holds of neighbourhoods in each space.
use Rattle.std.specs.Prelude.{◌≡◌, ℕ, ◌<◌, Some, pos, ◌+ℤ◌}
use Rattle.std.specs.Option.{option_map}
use Rattle.quantity.specs.declared.place.Offset.{Offset}
use Rattle.cell_grid.specs.Space.{Space, cell_count, place_of, neighbour}
use Rattle.cell_grid.specs.Watched.{watchers}
use Rattle.cell_reach.specs.Neighbourhoods.{Neighbourhood, AreWatchers, StaysInside, difference}

-- an offset that leads past no edge always leads equally far on
abbrev pub NeighboursInsideAreEquallyFar : Type 0
NeighboursInsideAreEquallyFar =
    (s : Space) (cell : ℕ) (o : Offset) → cell < cell_count s → StaysInside s (place_of s cell) o
    → option_map pos (neighbour s cell o) ≡ Some (pos cell +ℤ difference s o)

-- the rising list of watchers has the members that each list of watchers has
abbrev pub RisingWatchersAreWatchers : Type 0
RisingWatchersAreWatchers =
    (n : Neighbourhood) (cell : ℕ) → AreWatchers n cell (watchers n.space n.offsets cell)
