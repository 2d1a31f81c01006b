use Rattle.rule_phrases.proofs.Places.{at_offset}
use Rattle.rule_phrases.proofs.scope.is_at.Goals as goal

pub returns : goal.returns
returns c =
    let cell = c.args.cell.now in
    at_offset cell.row cell.column cell.plane c.args.offset.now _ _ _ _ c.all_three.ensures c.is_at_row.ensures c.is_at_column.ensures c.is_at_plane.ensures
