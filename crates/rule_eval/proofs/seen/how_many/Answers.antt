use Rattle.std.proofs.Common.{sym, ap, ◌∙◌, arith}
use Rattle.rule_tree.specs.Meaning.{how_many}
use Rattle.rule_eval.specs.Seen.{width_of, offset_count}
use Rattle.rule_eval.proofs.Pieces.{all_firsts}
use Rattle.rule_eval.proofs.seen.how_many.Goals as goal

pub returns-then-view-eq0-clause-value : goal.returns-then-view-eq0-clause-value
returns-then-view-eq0-clause-value c =
    let v = c.args.view.now in
    let all = all_firsts v.neighbours.now (width_of v) (offset_count v) (omega arith)
    c.requires.whole in
    c.how_many_in.ensures.value ∙ sym (ap (how_many c.args.wanted.now) all)
