use Rattle.ma_lines.proofs.OuterBlanks.{stands_on_texts}
use Rattle.ma_lines.proofs.laws.sections_stand_on_texts.Goals as goal

pub returns : goal.returns
returns c = stands_on_texts
