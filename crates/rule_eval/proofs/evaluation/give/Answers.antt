use Rattle.rule_eval.specs.Seen.{sight_of_view}
use Rattle.rule_eval.proofs.evaluation.give.Goals as goal

pub returns-in-Some-clause-value : goal.returns-in-Some-clause-value
returns-in-Some-clause-value c = c.in-Some.ensures.always.made (sight_of_view c.args.view.now)

pub returns-in-None-clause-value : goal.returns-in-None-clause-value
returns-in-None-clause-value c = c.give_worked.ensures.value
