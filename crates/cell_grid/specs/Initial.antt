-- The values of cells at the start: rows, map files and cells files, and how they are laid on one
-- another.
use Rattle.std.specs.Prelude.{ℕ, ◌+◌, ◌*◌, ◌==◌, Bool, ◌&&◌, nat_lt, Option, Some, None, List, [], ◌∷◌, ◌++◌, map, length, take, drop, replicate, set}
use Rattle.std.specs.List.{fold, before_first, after_first, flat_map}
use Rattle.std.specs.Option.{option_and_then}
use Rattle.std.specs.Bool.{then_some}
use Rattle.quantity.specs.declared.value.Value.{Value}
use Rattle.cell_grid.specs.Space.{Space, cell_count, dims_of}
use Rattle.quantity.specs.ByteNames.{equals_sign}
use Rattle.quantity.specs.Bytes.{Bytes, is_byte, words, without_outer_blanks, all_there}
use Rattle.quantity.specs.Digits.{whole_number}
use Rattle.quantity.specs.Literals.{value_in}
use Rattle.source_text.specs.Tuples.{tuple}
use Rattle.source_text.specs.Lines.{Line, lines_of, filled_lines}
use Rattle.cell_grid.specs.Places.{cell_in}

-- ---- rows, in two dimensions alone

-- a row of values with its number
pub record Row : Type 0 where
  pub row : ℕ
  pub values : List Value

-- a row of the space, with a value for each column
abbrev pub is_row : Space → ℕ → List Value → Bool
is_row space row values =
    (dims_of space == 2) && nat_lt row space.rows && (length values == space.columns)

-- the row, where it is one of the space
abbrev pub row_of_space : Space → Option ℕ → Option (List Value) → Option Row
row_of_space space (Some row) (Some values) =
    then_some (is_row space row values) (record { row = row; values = values })
row_of_space space row values = None

-- the value of a digit
abbrev pub digit_value : ℕ → Option Value
digit_value c = value_in (c ∷ [])

-- a row's number, and a digit or ? for each of its cells
abbrev pub digits_row : Space → List Bytes → Option Row
digits_row space (row ∷ chars ∷ []) =
    row_of_space space (whole_number 7 row) (all_there (map digit_value chars))
digits_row space texts = None

-- a row's number, and a value for each of its cells
abbrev pub values_row : Space → List Bytes → Option Row
values_row space [] = None
values_row space (row ∷ texts) =
    row_of_space space (whole_number 7 row) (all_there (map value_in texts))

-- a row written as a digit for each cell
abbrev pub row_digits : Space → Bytes → Option Row
row_digits space text = digits_row space (words text)

-- a row written as a value for each cell
abbrev pub row_values : Space → Bytes → Option Row
row_values space text = values_row space (words text)

-- ---- files

-- a value for each cell, by rising number
abbrev pub map_file : Space → Bytes → Option (List Value)
map_file space bytes =
    option_and_then (λ vs. then_some (length vs == cell_count space) vs)
    (all_there (map value_in (flat_map (λ (l : Line). words l.text) (lines_of bytes))))

-- a cell with its value, where both are there
abbrev pub cell_value : Option ℕ → Option Value → Option (ℕ × Value)
cell_value (Some cell) (Some v) = Some (cell, v)
cell_value cell v = None

-- tuple = value
abbrev pub cell_line : Space → Bytes → Option (ℕ × Value)
cell_line space text =
    cell_value
    (option_and_then (cell_in space)
    (tuple (without_outer_blanks (before_first (is_byte equals_sign) text))))
    (value_in (without_outer_blanks (after_first (is_byte equals_sign) text)))

-- the cells and values of a file, a cell a line
abbrev pub cells_file : Space → Bytes → Option (List (ℕ × Value))
cells_file space bytes =
    all_there (map (λ (l : Line). cell_line space l.text) (filled_lines bytes))

-- ---- values laid on one another

-- each cell with this value
abbrev pub uniform_values : Space → Value → List Value
uniform_values space v = replicate (cell_count space) v

-- with the values of a row laid over
abbrev pub with_row : Space → List Value → Row → List Value
with_row space vs r =
    take (r.row * space.columns) vs ++ r.values ++ drop (r.row * space.columns + space.columns) vs

-- with one cell's value changed
abbrev pub with_cell : List Value → ℕ × Value → List Value
with_cell vs c = set vs c.0 c.1

-- with rows laid over, one after another
abbrev pub with_rows : Space → List Value → List Row → List Value
with_rows space vs rows = fold (with_row space) vs rows

-- with a map file laid over, where there is one
abbrev pub with_map : List Value → Option (List Value) → List Value
with_map vs None = vs
with_map vs (Some values) = values

-- with a cells file laid over, where there is one
abbrev pub with_cells : List Value → Option (List (ℕ × Value)) → List Value
with_cells vs None = vs
with_cells vs (Some cs) = fold with_cell vs cs
