-- The numbers of the cells of a row.
use Rattle.std.proofs.Common.{◌≡◌, ℕ, ◌+◌, ◌*◌, ◌<◌, List, length, ap, ◌∙◌, subst, sym, arith}
use Rattle.std.proofs.Math.Nat.{add-mul}
use Rattle.quantity.specs.declared.place.Place.{Place}
use Rattle.quantity.specs.declared.value.Value.{Value}
use Rattle.cell_grid.specs.Space.{Space, number_of, plane_count}
use Rattle.cell_grid.proofs.Places.{number-inside}
use Rattle.frame_draw.specs.declared.plane.Plane.{Plane}
use Rattle.frame_draw.specs.declared.rows.RowCells.{RowCells}
use Rattle.frame_draw.specs.Pictures.{IsPicture}
use Rattle.frame_draw.specs.RowNumbers.{AreCellsOf}

in_row : (s : Space) (row column plane : ℕ) → number_of s row 0 plane + column * plane_count s ≡ number_of s row column plane
in_row s row column plane =
    let a = add-mul (row * s.columns) column (plane_count s) in
    let b = add-mul (row * s.columns) 0 (plane_count s) in
    omega (arith, a, b)

pub number_is : (p : Plane) (row column : ℕ) (cells : RowCells) → AreCellsOf p row cells → cells.first + column * cells.step ≡ number_of p.grid row column p.plane
number_is p row column cells of =
    ap (λ n. n + column * cells.step) of.first_is
    ∙ ap (λ n. number_of p.grid row 0 p.plane + column * n) of.step_is
    ∙ in_row p.grid row column p.plane

pub number_within : (p : Plane) (values : List Value) (row column : ℕ) → IsPicture p values → row < p.grid.rows → column < p.grid.columns → number_of p.grid row column p.plane < length values
number_within p values row column is r c =
    let place : Place = record { row = row; column = column; plane = p.plane } in
    subst (λ n. number_of p.grid row column p.plane < n) (sym is.all) (number-inside p.grid place (r, c, is.can_draw.plane_inside))
