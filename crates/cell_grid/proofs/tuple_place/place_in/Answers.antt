use Rattle.std.proofs.Common.{rules, ◌≡◌, nat_eq, sym, ap, ◌∙◌, FitsSigned, w32}
use Rattle.std.specs.Option.{is_some}
use Rattle.std.specs.Bool.{then_some}
use Rattle.std.proofs.lemmas.Int.{to_z-of_z}
use Rattle.cell_grid.specs.Space.{dims_of}
use Rattle.cell_grid.specs.Places.{natural}
use Rattle.cell_grid.proofs.Offsets.{same_tests}
use Rattle.cell_grid.proofs.PlaceTuples.{column_off, place_given, plane_off, row_off}
use Rattle.cell_grid.proofs.tuple_place.place_in.Goals as goal

pub returns-in_err-natural : goal.returns-in_err-natural
returns-in_err-natural c =
    let row : FitsSigned w32 c.args.tuple.row = search rules in
    c.from_residual.ensures ∙ sym (row_off c.args.grid.now c.args.tuple (ap natural (sym (to_z-of_z w32 c.args.tuple.row row)) ∙ sym c.natural.ensures ∙ c.in_err-natural.was))

pub returns-in_err-natural-2 : goal.returns-in_err-natural-2
returns-in_err-natural-2 c =
    let column : FitsSigned w32 c.args.tuple.column = search rules in
    c.from_residual-in_err-natural-2.ensures ∙ sym (column_off c.args.grid.now c.args.tuple (ap natural (sym (to_z-of_z w32 c.args.tuple.column column)) ∙ sym c.natural-2.ensures ∙ c.in_err-natural-2.was))

pub returns-in_err-natural-3 : goal.returns-in_err-natural-3
returns-in_err-natural-3 c =
    let plane : FitsSigned w32 c.unwrap_or.result = search rules in
    c.from_residual-in_err-natural-3.ensures ∙ sym (plane_off c.args.grid.now c.args.tuple (ap natural (sym c.unwrap_or.ensures ∙ sym (to_z-of_z w32 c.unwrap_or.result plane)) ∙ sym c.natural-3.ensures ∙ c.in_err-natural-3.was))

pub returns-in_err-index : goal.returns-in_err-index
returns-in_err-index c =
    let row : FitsSigned w32 c.args.tuple.row = search rules in
    let column : FitsSigned w32 c.args.tuple.column = search rules in
    let plane : FitsSigned w32 c.unwrap_or.result = search rules in
    let dims : is_some c.args.tuple.plane ≡ nat_eq (dims_of c.args.grid.now) 3 =
    sym c.is_some.ensures ∙ same_tests c.is_some.result (nat_eq c.dims.result 3) c.if-is_some-dims.false ∙ ap (λ n. nat_eq n 3) c.dims.ensures in
    let given = place_given c.args.grid.now c.args.tuple (record { row = c.in_ok-natural.field-0; column = c.in_ok-natural-2.field-0; plane = c.in_ok-natural-3.field-0 }) dims (ap natural (sym (to_z-of_z w32 c.args.tuple.row row)) ∙ sym c.natural.ensures ∙ c.in_ok-natural.was) (ap natural (sym (to_z-of_z w32 c.args.tuple.column column)) ∙ sym c.natural-2.ensures ∙ c.in_ok-natural-2.was)
    (ap natural (sym c.unwrap_or.ensures ∙ sym (to_z-of_z w32 c.unwrap_or.result plane)) ∙ sym c.natural-3.ensures ∙ c.in_ok-natural-3.was) in
    c.from_residual-in_err-index.ensures ∙ sym (given ∙ ap (λ cell. then_some (is_some cell) (record { row = c.in_ok-natural.field-0; column = c.in_ok-natural-2.field-0; plane = c.in_ok-natural-3.field-0 })) (sym c.index.ensures.value ∙ c.in_err-index.was))

pub returns : goal.returns
returns c =
    let row : FitsSigned w32 c.args.tuple.row = search rules in
    let column : FitsSigned w32 c.args.tuple.column = search rules in
    let plane : FitsSigned w32 c.unwrap_or.result = search rules in
    let dims : is_some c.args.tuple.plane ≡ nat_eq (dims_of c.args.grid.now) 3 =
    sym c.is_some.ensures ∙ same_tests c.is_some.result (nat_eq c.dims.result 3) c.if-is_some-dims.false ∙ ap (λ n. nat_eq n 3) c.dims.ensures in
    let given = place_given c.args.grid.now c.args.tuple (record { row = c.in_ok-natural.field-0; column = c.in_ok-natural-2.field-0; plane = c.in_ok-natural-3.field-0 }) dims (ap natural (sym (to_z-of_z w32 c.args.tuple.row row)) ∙ sym c.natural.ensures ∙ c.in_ok-natural.was) (ap natural (sym (to_z-of_z w32 c.args.tuple.column column)) ∙ sym c.natural-2.ensures ∙ c.in_ok-natural-2.was)
    (ap natural (sym c.unwrap_or.ensures ∙ sym (to_z-of_z w32 c.unwrap_or.result plane)) ∙ sym c.natural-3.ensures ∙ c.in_ok-natural-3.was) in
    sym (given ∙ ap (λ cell. then_some (is_some cell) (record { row = c.in_ok-natural.field-0; column = c.in_ok-natural-2.field-0; plane = c.in_ok-natural-3.field-0 })) (sym c.index.ensures.value ∙ c.in_ok-index.was))
