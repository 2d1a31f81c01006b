use Rattle.std.proofs.Common.{sym, ap, ◌∙◌}
use Rattle.rule_tree.specs.Meaning.{whole, outs}
use Rattle.rule_eval.specs.Seen.{sight_of_view}
use Rattle.rule_eval.proofs.Pieces.{counted_number}
use Rattle.rule_eval.proofs.seen.state_count.Goals as goal

pub returns-in-Num : goal.returns-in-Num
returns-in-Num c =
    let seen = outs (sight_of_view c.args.view.now) in
    let number = counted_number c.args.value c.in-Num.field-0 seen c.in-Num.is in
    c.whole.ensures ∙ ap whole c.how_many.ensures.value ∙ sym number
