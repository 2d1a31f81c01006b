use Rattle.ma_lines.proofs.Plain.{plain_texts}
use Rattle.ma_lines.proofs.laws.texts_are_plain.Goals as goal

pub returns : goal.returns
returns c = plain_texts
