use Rattle.std.proofs.Common.{sym, ap, ◌∙◌, arith}
use Rattle.rule_tree.specs.Meaning.{neighbour_count}
use Rattle.rule_eval.specs.Seen.{width_of, offset_count}
use Rattle.rule_eval.proofs.Pieces.{all_firsts}
use Rattle.rule_eval.proofs.seen.counted_outs.Goals as goal

pub returns : goal.returns
returns c =
    let v = c.args.view.now in
    let all = all_firsts v.neighbours.now (width_of v) (offset_count v) (omega arith)
    c.requires.view.whole in
    c.counted_in.ensures ∙ sym (ap (neighbour_count c.args.count) all)
