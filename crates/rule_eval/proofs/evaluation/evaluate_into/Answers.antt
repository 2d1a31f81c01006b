use Rattle.rule_eval.proofs.evaluation.evaluate_into.Goals as goal

pub returns-clause-value : goal.returns-clause-value
returns-clause-value c = c.evaluate_counted.ensures.value
