use Rattle.ma_lines.proofs.Dropped.{stands_on_lines}
use Rattle.ma_lines.proofs.laws.sections_stand_on_lines.Goals as goal

pub returns : goal.returns
returns c = stands_on_lines
