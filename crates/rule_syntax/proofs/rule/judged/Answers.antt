use Rattle.rule_syntax.proofs.RuleRead.{judged_refused, judged_right}
use Rattle.rule_syntax.proofs.rule.judged.Goals as goal

pub returns-in-Some-clause-refusal : goal.returns-in-Some-clause-refusal
returns-in-Some-clause-refusal c = λ names w. judged_refused names c.args.rule w c.refused.result c.in-Some.why c.refused.ensures c.in-Some.is

pub returns-in-None-clause-rule : goal.returns-in-None-clause-rule
returns-in-None-clause-rule c = λ names w. judged_right names c.args.rule w c.refused.result c.refused.ensures c.in-None.is
