use Rattle.rule_phrases.proofs.Terms.{two_stands}
use Rattle.rule_phrases.proofs.term.Term.two.Goals as goal

pub returns : goal.returns
returns c =
    two_stands c.args.operator c.args.left c.args.right _ c.in_ok-node.ensures c.sort_of_two-sort.ensures c.and-lacks.ensures
