use Rattle.rule_eval.proofs.evaluation.evaluate_lent.Goals as goal

pub returns-clause-value : goal.returns-clause-value
returns-clause-value c = c.first_true.ensures.value
