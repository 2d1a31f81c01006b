use Rattle.ma_lines.proofs.OuterBlanks.{drops_outer_blanks}
use Rattle.ma_lines.proofs.laws.outer_blanks_are_dropped.Goals as goal

pub returns : goal.returns
returns c = drops_outer_blanks
