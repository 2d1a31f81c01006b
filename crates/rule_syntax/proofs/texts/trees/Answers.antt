use Rattle.rule_syntax.proofs.ReadTexts.{texts_are_read}
use Rattle.rule_syntax.proofs.texts.trees.Goals as goal

pub returns : goal.returns
returns c = texts_are_read
