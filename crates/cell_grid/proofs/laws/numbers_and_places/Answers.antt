use Rattle.std.proofs.Common.{Some, ap, sym, ◌∙◌}
use Rattle.cell_grid.specs.Space.{place_of, number_of}
use Rattle.cell_grid.proofs.Places.{place-inside, number-of_place, cell_at-inside, inside-from_cell_at, place-of_number, number-inside}
use Rattle.cell_grid.proofs.laws.numbers_and_places.Goals as goal

pub returns-clause-cells : goal.returns-clause-cells
returns-clause-cells c = λ s cell here.
    cell_at-inside s (place_of s cell) (place-inside s cell here) ∙ ap Some (number-of_place s cell)

pub returns-clause-places : goal.returns-clause-places
returns-clause-places c = λ s p cell is.
    let at = inside-from_cell_at s p cell is in
    ap (place_of s) (sym at.1) ∙ place-of_number s p at.0

pub returns-clause-inside : goal.returns-clause-inside
returns-clause-inside c = λ s p. (
  λ inside. (number_of s p.row p.column p.plane, cell_at-inside s p inside, number-inside s p inside),
  λ at. (inside-from_cell_at s p at.0 at.1).0,
)
