use Rattle.ma_lines.proofs.Rising.{rise}
use Rattle.ma_lines.proofs.laws.numbers_rise.Goals as goal

pub returns : goal.returns
returns c = rise
