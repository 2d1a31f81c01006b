use Rattle.std.proofs.Common.{sym, ◌∙◌}
use Rattle.rule_words.proofs.FirstPiece.{first_piece}
use Rattle.rule_words.proofs.piece.first_piece.Goals as goal

pub split_at-requires : goal.split_at-requires
split_at-requires c = (first_piece c.args.text.now c.piece_length.result (sym c.is_empty.ensures ∙ c.if-is_empty.false) c.piece_length.ensures).within

pub returns-clause-pieces : goal.returns-clause-pieces
returns-clause-pieces c =
    rw (c.split_at.ensures.front, c.split_at.ensures.back) (first_piece c.args.text.now c.piece_length.result (sym c.is_empty.ensures ∙ c.if-is_empty.false) c.piece_length.ensures).cut
