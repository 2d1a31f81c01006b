-- Private: what is said of the plane that is drawn.
use Rattle.std.specs.Prelude.{◌≡◌, ℕ, List, ◌++◌, length, codes}
use Rattle.std.specs.List.{flat_map, range_with_len}
use Rattle.quantity.specs.Bytes.{Bytes}
use Rattle.quantity.specs.Times.{time_text}
use Rattle.quantity.specs.ValueTexts.{value_text}
use Rattle.quantity.specs.declared.value.Value.{Value}
use Rattle.cell_grid.specs.Space.{cell_count, number_of}
use Rattle.text_forms.specs.Lines.{line_with_end}
use Rattle.text_forms.specs.Frames.{Picture, edge, row_text}
use Rattle.frame_draw.specs.declared.plane.Plane.{Plane}
use Rattle.frame_draw.specs.Drawing.{CanDraw, value_of_cell}

-- what is drawn, in code as in the definitions
abbrev pub picture_of : Plane → Picture
picture_of p = record { space = p.grid; plane = p.plane; width = p.width; decimals = p.decimals }

-- the plane can be drawn, and each cell has a value
pub record IsPicture (p : Plane) (values : List Value) : Type 0 where
  pub can_draw : CanDraw p.grid p.plane p.width p.decimals
  pub all : length values ≡ cell_count p.grid

-- the first line of a frame
abbrev pub time_line : ℕ → Bytes
time_line t = line_with_end (codes "Time: " ++ time_text t)

-- the value of the cell of this number
abbrev pub value_at : Plane → List Value → ℕ → Bytes
value_at p values cell = value_text p.decimals p.width (value_of_cell values cell)

-- the value of a cell of the plane
abbrev pub cell_text : Plane → List Value → ℕ → ℕ → Bytes
cell_text p values row column = value_at p values (number_of p.grid row column p.plane)

-- the first cells of a row
abbrev pub cells_text : Plane → List Value → ℕ → ℕ → Bytes
cells_text p values row n = flat_map (cell_text p values row) (range_with_len 0 n)

-- the first rows
abbrev pub rows_text : Plane → List Value → ℕ → Bytes
rows_text p values n =
    flat_map (row_text (picture_of p) (value_of_cell values)) (range_with_len 0 n)

-- all rows between two edges
abbrev pub framed_rows : Plane → List Value → Bytes
framed_rows p values =
    edge (picture_of p) ++ rows_text p values p.grid.rows ++ edge (picture_of p)
