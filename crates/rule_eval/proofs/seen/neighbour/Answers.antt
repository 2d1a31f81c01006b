use Rattle.std.proofs.Common.{arith}
use Rattle.rule_eval.proofs.Pieces.{in_piece_within, in_piece_past}
use Rattle.rule_eval.specs.Seen.{width_of, offset_count}
use Rattle.rule_eval.proofs.seen.neighbour.Goals as goal

pub returns-then-port-view : goal.returns-then-port-view
returns-then-port-view c =
    let v = c.args.view.now in
    in_piece_past v.neighbours.now (width_of v) (offset_count v) c.args.offset c.args.port
    (omega arith)

pub returns : goal.returns
returns c =
    let v = c.args.view.now in
    let found = in_piece_within v.neighbours.now (width_of v) (offset_count v) c.args.offset
    c.args.port (omega arith) c.requires.whole in
    cc
