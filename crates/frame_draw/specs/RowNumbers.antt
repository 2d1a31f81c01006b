-- Private: the numbers of the cells of a row.
use Rattle.std.specs.Prelude.{◌≡◌, ℕ}
use Rattle.cell_grid.specs.Space.{number_of, plane_count}
use Rattle.frame_draw.specs.declared.plane.Plane.{Plane}
use Rattle.frame_draw.specs.declared.rows.RowCells.{RowCells}

-- the cells of this row of the plane that is drawn
pub record AreCellsOf (p : Plane) (row : ℕ) (cells : RowCells) : Type 0 where
  pub first_is : cells.first ≡ number_of p.grid row 0 p.plane
  pub step_is : cells.step ≡ plane_count p.grid
