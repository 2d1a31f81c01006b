use Rattle.std.proofs.Common.{ap}
use Rattle.rule_forms.specs.Stops.{or_stop}
use Rattle.rule_eval.proofs.answers.run.Goals as goal

pub returns-in-Ok-clause-value : goal.returns-in-Ok-clause-value
returns-in-Ok-clause-value c = ap or_stop c.in-Ok.ensures.value

pub returns-in-Err-clause-value : goal.returns-in-Err-clause-value
returns-in-Err-clause-value c = ap or_stop c.in-Err.ensures.value
