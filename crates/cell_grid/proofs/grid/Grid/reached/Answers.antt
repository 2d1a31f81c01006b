use Rattle.std.proofs.Common.{sym, ap, ◌∙◌, ◌<◌, Some, subst, FitsSigned, w16, rules}
use Rattle.std.proofs.lemmas.Int.{to_z-of_z}
use Rattle.cell_grid.specs.Space.{Space, coordinate_after_step}
use Rattle.cell_grid.specs.Steps.{offset_of_step}
use Rattle.cell_grid.proofs.Places.{columns-few, rows-few}
use Rattle.cell_grid.proofs.Borders.{all_moved, no_column, no_plane, no_row}
use Rattle.cell_grid.proofs.grid.Grid.reached.Goals as goal

pub returns-in_err-row-clause-value : goal.returns-in_err-row-clause-value
returns-in_err-row-clause-value c =
    let rows_fit : FitsSigned w16 c.args.step.rows = search rules in
    let rows = sym (to_z-of_z w16 c.args.step.rows rows_fit) in
    c.from_residual.ensures ∙ sym (no_row _ _ c.self.view_is c.args.place (offset_of_step c.args.step) (ap (coordinate_after_step c.self.inside.border c.self.inside.rows c.args.place.row) rows ∙ sym c.moved.ensures.value ∙ c.in_err-row.was))

pub returns-in_err-column-clause-value : goal.returns-in_err-column-clause-value
returns-in_err-column-clause-value c =
    let rows_fit : FitsSigned w16 c.args.step.rows = search rules in
    let rows = sym (to_z-of_z w16 c.args.step.rows rows_fit) in
    let columns_fit : FitsSigned w16 c.args.step.columns = search rules in
    let columns = sym (to_z-of_z w16 c.args.step.columns columns_fit) in
    c.from_residual-in_err-column.ensures
    ∙ sym (no_column _ _ c.self.view_is c.args.place (offset_of_step c.args.step) c.in_ok-row.row (ap (coordinate_after_step c.self.inside.border c.self.inside.rows c.args.place.row) rows ∙ sym c.moved.ensures.value ∙ c.in_ok-row.was) (ap (coordinate_after_step c.self.inside.border c.self.inside.columns c.args.place.column) columns ∙ sym c.moved-2.ensures.value ∙ c.in_err-column.was))

pub returns-in_err-plane-clause-value : goal.returns-in_err-plane-clause-value
returns-in_err-plane-clause-value c =
    let rows_fit : FitsSigned w16 c.args.step.rows = search rules in
    let rows = sym (to_z-of_z w16 c.args.step.rows rows_fit) in
    let columns_fit : FitsSigned w16 c.args.step.columns = search rules in
    let columns = sym (to_z-of_z w16 c.args.step.columns columns_fit) in
    let planes_fit : FitsSigned w16 c.args.step.planes = search rules in
    let planes = sym (to_z-of_z w16 c.args.step.planes planes_fit) in
    c.from_residual-in_err-plane.ensures
    ∙ sym (no_plane _ _ c.self.view_is c.args.place (offset_of_step c.args.step) c.in_ok-row.row (ap (coordinate_after_step c.self.inside.border c.self.inside.rows c.args.place.row) rows ∙ sym c.moved.ensures.value ∙ c.in_ok-row.was) c.in_ok-column.column (ap (coordinate_after_step c.self.inside.border c.self.inside.columns c.args.place.column) columns ∙ sym c.moved-2.ensures.value ∙ c.in_ok-column.was) c.planes.result c.planes.ensures.value (ap (coordinate_after_step c.self.inside.border c.planes.result c.args.place.plane) planes ∙ sym c.moved-3.ensures.value ∙ c.in_err-plane.was))

pub returns-clause-value : goal.returns-clause-value
returns-clause-value c =
    let rows_fit : FitsSigned w16 c.args.step.rows = search rules in
    let rows = sym (to_z-of_z w16 c.args.step.rows rows_fit) in
    let columns_fit : FitsSigned w16 c.args.step.columns = search rules in
    let columns = sym (to_z-of_z w16 c.args.step.columns columns_fit) in
    let planes_fit : FitsSigned w16 c.args.step.planes = search rules in
    let planes = sym (to_z-of_z w16 c.args.step.planes planes_fit) in
    ap Some c.number.ensures.value
    ∙ sym (all_moved _ _ c.self.view_is c.args.place (offset_of_step c.args.step) c.in_ok-row.row (ap (coordinate_after_step c.self.inside.border c.self.inside.rows c.args.place.row) rows ∙ sym c.moved.ensures.value ∙ c.in_ok-row.was) c.in_ok-column.column (ap (coordinate_after_step c.self.inside.border c.self.inside.columns c.args.place.column) columns ∙ sym c.moved-2.ensures.value ∙ c.in_ok-column.was) c.planes.result c.planes.ensures.value c.in_ok-plane.plane (ap (coordinate_after_step c.self.inside.border c.planes.result c.args.place.plane) planes ∙ sym c.moved-3.ensures.value ∙ c.in_ok-plane.was))

pub returns-clause-inside : goal.returns-clause-inside
returns-clause-inside c = c.number.ensures.inside

pub moved-requires-clause-inside : goal.moved-requires-clause-inside
moved-requires-clause-inside c = subst (λ (s : Space). c.args.place.row < s.rows) (sym c.self.view_is) c.requires.0

pub moved-requires-clause-bounded : goal.moved-requires-clause-bounded
moved-requires-clause-bounded c = rows-few (record { rows = c.self.inside.rows; columns = c.self.inside.columns; planes = c.self.inside.planes; border = c.self.inside.border }) c.self.invariant

pub moved-requires-2-clause-inside : goal.moved-requires-2-clause-inside
moved-requires-2-clause-inside c = subst (λ (s : Space). c.args.place.column < s.columns) (sym c.self.view_is) c.requires.1

pub moved-requires-2-clause-bounded : goal.moved-requires-2-clause-bounded
moved-requires-2-clause-bounded c = columns-few (record { rows = c.self.inside.rows; columns = c.self.inside.columns; planes = c.self.inside.planes; border = c.self.inside.border }) c.self.invariant
