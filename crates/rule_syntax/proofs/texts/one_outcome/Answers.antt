use Rattle.rule_syntax.proofs.OneOutcome.{has_one_outcome}
use Rattle.rule_syntax.proofs.texts.one_outcome.Goals as goal

pub returns : goal.returns
returns c = has_one_outcome
