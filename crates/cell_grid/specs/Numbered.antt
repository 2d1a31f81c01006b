-- Numbers that stand for zones.
use Rattle.std.specs.Prelude.{◌≡◌, ℕ, ◌<◌, Option, Some, None, List, slice_get, slice_index}
use Rattle.std.specs.Option.{unwrap_or}
use Rattle.cell_grid.specs.Space.{Space, cell_count}

-- the number that stands for a zone, 0 where there is none; without a zone this other one
abbrev pub zone_number : List ℕ → ℕ → Option ℕ → ℕ
zone_number numbers other None = other
zone_number numbers other (Some zone) = unwrap_or (slice_get numbers zone) 0

-- each cell of the space has the number that stands for its zone, and keeps its own without a zone
abbrev pub LaysNumbers : Space → (ℕ → Option ℕ) → List ℕ → List ℕ → List ℕ → Type 0
LaysNumbers space zone_at numbers old new =
    (cell : ℕ) → cell < cell_count space
    → slice_index new cell ≡ zone_number numbers (slice_index old cell) (zone_at cell)
