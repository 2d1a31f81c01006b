use Rattle.rule_syntax.proofs.ReadSound.{read_sound}
use Rattle.rule_syntax.proofs.texts.read_rules_are_sound.Goals as goal

pub returns : goal.returns
returns c = read_sound
