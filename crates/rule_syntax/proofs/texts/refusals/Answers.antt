use Rattle.rule_syntax.proofs.RefusedTexts.{texts_are_refused}
use Rattle.rule_syntax.proofs.texts.refusals.Goals as goal

pub returns : goal.returns
returns c = texts_are_refused
