use Rattle.rule_eval.proofs.evaluation.give_worked.Goals as goal

pub give_alone-requires-clause-alone : goal.give_alone-requires-clause-alone
give_alone-requires-clause-alone c = c.in-Some.ensures.always

pub returns-in-Some-clause-value : goal.returns-in-Some-clause-value
returns-in-Some-clause-value c = c.give_alone.ensures.value

pub returns-in-None-clause-value : goal.returns-in-None-clause-value
returns-in-None-clause-value c = c.give_placed.ensures.value
