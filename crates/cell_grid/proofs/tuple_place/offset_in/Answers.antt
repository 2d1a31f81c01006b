use Rattle.std.proofs.Common.{rules, ◌≡◌, nat_eq, Some, sym, ap, ◌∙◌, FitsSigned, w8, w32}
use Rattle.std.specs.Option.{is_some}
use Rattle.std.proofs.lemmas.Int.{to_z-of_z}
use Rattle.quantity.specs.declared.place.Offset.{Offset}
use Rattle.cell_grid.specs.Space.{dims_of}
use Rattle.cell_grid.specs.Offsets.{near}
use Rattle.cell_grid.proofs.Offsets.{same_tests, offset_there}
use Rattle.cell_grid.proofs.tuple_place.offset_in.Goals as goal

pub returns : goal.returns
returns c =
    let row : FitsSigned w8 c.in_ok-row.row = search rules in
    let column : FitsSigned w8 c.in_ok-column.column = search rules in
    let plane : FitsSigned w8 c.in_ok-plane.plane = search rules in
    let first : FitsSigned w32 c.args.tuple.row = search rules in
    let second : FitsSigned w32 c.args.tuple.column = search rules in
    let third : FitsSigned w32 c.unwrap_or.result = search rules in
    let dims : is_some c.args.tuple.plane ≡ nat_eq (dims_of c.args.grid.now) 3 =
    sym c.is_some.ensures ∙ same_tests c.is_some.result (nat_eq c.dims.result 3) c.if-is_some-dims.false ∙ ap (λ n. nat_eq n 3) c.dims.ensures in
    offset_there c.args.grid.now c.args.tuple c.offset.result dims
    (ap near (sym (to_z-of_z w32 c.args.tuple.row first)) ∙ sym c.near.ensures ∙ c.in_ok-row.was
    ∙ ap Some (sym (ap (λ (o : Offset). o.row) c.offset.ensures ∙ to_z-of_z w8 c.in_ok-row.row row)))
    (ap near (sym (to_z-of_z w32 c.args.tuple.column second)) ∙ sym c.near-2.ensures ∙ c.in_ok-column.was
    ∙ ap Some (sym (ap (λ (o : Offset). o.column) c.offset.ensures ∙ to_z-of_z w8 c.in_ok-column.column column)))
    (ap near (sym c.unwrap_or.ensures ∙ sym (to_z-of_z w32 c.unwrap_or.result third)) ∙ sym c.near-3.ensures ∙ c.in_ok-plane.was
    ∙ ap Some (sym (ap (λ (o : Offset). o.plane) c.offset.ensures ∙ to_z-of_z w8 c.in_ok-plane.plane plane)))
