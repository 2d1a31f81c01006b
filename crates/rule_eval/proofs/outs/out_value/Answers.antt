use Rattle.std.proofs.Common.{◌*◌, ap, arith, add-zero}
use Rattle.rule_tree.specs.Meaning.{value_at}
use Rattle.rule_eval.proofs.Pieces.{in_piece_within}
use Rattle.rule_eval.specs.Seen.{width_of, offset_count}
use Rattle.rule_eval.proofs.outs.out_value.Goals as goal

pub returns : goal.returns
returns c =
    let v = c.args.view.now in
    let values = v.neighbours.now in
    let here = ap (value_at values) (add-zero (c.args.offset * width_of v)) in
    let found = in_piece_within values (width_of v) (offset_count v) c.args.offset 0 (omega arith) c.requires.whole in cc
