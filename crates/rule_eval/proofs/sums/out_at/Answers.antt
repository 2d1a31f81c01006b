use Rattle.std.proofs.Common.{arith}
use Rattle.rule_eval.proofs.Pieces.{in_single_piece, in_piece_past}
use Rattle.rule_eval.specs.Seen.{width_of, offset_count}
use Rattle.rule_eval.proofs.sums.out_at.Goals as goal

pub returns-then-at-eq0 : goal.returns-then-at-eq0
returns-then-at-eq0 c =
    let v = c.args.view.now in
    let at = c.args.at.now in
    let found = in_single_piece v.neighbours.now (width_of v) (offset_count v) at.offset at.port
    (omega arith) (omega arith) c.requires.view.whole in
    cc

pub returns-else-at-eq0 : goal.returns-else-at-eq0
returns-else-at-eq0 c =
    let v = c.args.view.now in
    let at = c.args.at.now in
    in_piece_past v.neighbours.now (width_of v) (offset_count v) at.offset at.port (omega arith)
