use Rattle.drawlog_top.proofs.FrontPieces.{cell_before, component_before}
use Rattle.drawlog_top.proofs.front.leaf_in_front.Goals as goal

pub returns-in_ok-place-in-Some-clause-leaf : goal.returns-in_ok-place-in-Some-clause-leaf
returns-in_ok-place-in-Some-clause-leaf c =
    let name = c.in_ok-name in
    let cell = c.in_ok-place-in-Some in
    cell_before c.args.text.now name.name.now cell.place.row cell.place.column name.behind_name.now c.in-Some.at_row.now
    cell.rest.now name.ensures.0 name.ensures.1 c.in-Some.ensures cell.ensures.place

pub returns-in_ok-rest-in-None-clause-leaf : goal.returns-in_ok-rest-in-None-clause-leaf
returns-in_ok-rest-in-None-clause-leaf c =
    let name = c.in_ok-name in
    let behind = c.in_ok-rest-in-None in
    component_before c.args.text.now name.name.now name.behind_name.now behind.rest.now name.ensures.0 name.ensures.1 behind.ensures
