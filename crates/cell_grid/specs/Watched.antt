-- Which spaces can be held, and who watches a cell.
use Rattle.std.specs.Prelude.{ℕ, ◌*◌, ◌<◌, ◌≤◌, Bool, false, ◌==◌, Option, Some, None, List, neg_ℤ}
use Rattle.std.specs.List.{filter, list_any, range_with_len}
use Rattle.std.specs.Option.{unwrap_or}
use Rattle.quantity.specs.declared.bounds.TheConstants.{MAX_CELLS}
use Rattle.quantity.specs.declared.place.Offset.{Offset}
use Rattle.quantity.specs.declared.place.Place.{Place}
use Rattle.cell_grid.specs.Space.{Space, cell_count, neighbour, plane_count}

-- sizes of a space: none is 0, and there are at most MAX_CELLS cells
abbrev pub CanHold : ℕ → ℕ → Option ℕ → Type 0
CanHold rows columns planes =
    (0 < rows) × (0 < columns) × (0 < unwrap_or planes 1)
    × (rows * columns * unwrap_or planes 1 ≤ MAX_CELLS)

-- each coordinate of a place is below its size
abbrev pub IsInside : Space → Place → Type 0
IsInside s p = (p.row < s.rows) × (p.column < s.columns) × (p.plane < plane_count s)

-- the step back
abbrev pub opposite : Offset → Offset
opposite o = record { row = neg_ℤ o.row; column = neg_ℤ o.column; plane = neg_ℤ o.plane }

-- whether it is this cell
abbrev pub is_this_cell : ℕ → Option ℕ → Bool
is_this_cell cell None = false
is_this_cell cell (Some n) = n == cell

-- some offset leads from x to the cell
abbrev pub leads_to : Space → List Offset → ℕ → ℕ → Bool
leads_to s offsets cell x = list_any (λ o. is_this_cell cell (neighbour s x o)) offsets

-- the rising list of the cells that have this cell as a neighbour
abbrev pub watchers : Space → List Offset → ℕ → List ℕ
watchers s offsets cell = filter (leads_to s offsets cell) (range_with_len 0 (cell_count s))
