use Rattle.drawlog_top.proofs.FrontPieces.{place_pieces}
use Rattle.drawlog_top.proofs.front.place_in_front.Goals as goal

pub returns-clause-place : goal.returns-clause-place
returns-clause-place c =
    place_pieces c.args.text.now c.in_ok-row.row c.in_ok-column.column c.in_ok-row.behind_row.now c.in_ok-at_column.at_column.now
    c.in_ok-column.behind_column.now c.in_ok-rest.rest.now c.in_ok-row.ensures.0 c.in_ok-column.ensures.0
    c.in_ok-row.ensures.1 c.in_ok-at_column.ensures c.in_ok-column.ensures.1 c.in_ok-rest.ensures
