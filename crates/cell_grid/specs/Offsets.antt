-- Offsets of few numbers.
use Rattle.std.specs.Prelude.{Option, Some, None, List, ◌∷◌, ℤ, pos, []}
use Rattle.std.specs.Option.{option_and_then}
use Rattle.std.specs.Bool.{then_some}
use Rattle.quantity.specs.declared.place.Offset.{Offset}
use Rattle.cell_grid.specs.Space.{Space}
use Rattle.cell_grid.specs.Places.{is_near, is_offset}

-- a number that may be one of an offset's
abbrev pub near : ℤ → Option ℤ
near n = then_some (is_near n) n

-- two or three steps as an offset
abbrev pub offset_of_numbers : List ℤ → Option Offset
offset_of_numbers (row ∷ column ∷ []) = Some (record { row = row; column = column; plane = pos 0 })
offset_of_numbers (row ∷ column ∷ plane ∷ []) =
    Some (record { row = row; column = column; plane = plane })
offset_of_numbers is = None

-- the offset of a space that a tuple gives
abbrev pub offset_in : Space → List ℤ → Option Offset
offset_in space is = option_and_then offset_of_numbers (then_some (is_offset space is) is)
