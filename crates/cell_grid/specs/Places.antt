-- Tuples as places and offsets of a space.
use Rattle.std.specs.Prelude.{ℕ, ◌==◌, Bool, ◌&&◌, nat_le, Option, Some, None, List, ◌∷◌, map, length, ℤ, pos, negsuc, unsigned_abs, []}
use Rattle.std.specs.List.{list_all}
use Rattle.std.specs.Option.{option_and_then, is_some}
use Rattle.std.specs.Bool.{then_some}
use Rattle.quantity.specs.declared.place.Place.{Place}
use Rattle.quantity.specs.Bytes.{all_there}
use Rattle.cell_grid.specs.Space.{Space, dims_of, cell_at_place}

-- an integer, where it is not negative
abbrev pub natural : ℤ → Option ℕ
natural (pos n) = Some n
natural (negsuc n) = None

-- two or three coordinates as a place
abbrev pub place_of_numbers : List ℕ → Option Place
place_of_numbers (row ∷ column ∷ []) = Some (record { row = row; column = column; plane = 0 })
place_of_numbers (row ∷ column ∷ plane ∷ []) =
    Some (record { row = row; column = column; plane = plane })
place_of_numbers ns = None

-- a place, where it is inside
abbrev pub in_space : Space → Place → Option Place
in_space space p = then_some (is_some (cell_at_place space p)) p

-- the place in a space that a tuple gives
abbrev pub place_in : Space → List ℤ → Option Place
place_in space is =
    option_and_then (in_space space)
    (option_and_then place_of_numbers
    (option_and_then (λ js. all_there (map natural js))
    (then_some (length is == dims_of space) is)))

-- the number of the cell there
abbrev pub cell_in : Space → List ℤ → Option ℕ
cell_in space is = option_and_then (cell_at_place space) (place_in space is)

-- at most 64 away
abbrev pub is_near : ℤ → Bool
is_near n = nat_le (unsigned_abs n) 64

-- a tuple that may be an offset of a space
abbrev pub is_offset : Space → List ℤ → Bool
is_offset space is = (length is == dims_of space) && list_all is_near is
