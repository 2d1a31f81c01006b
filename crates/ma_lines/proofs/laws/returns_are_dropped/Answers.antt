use Rattle.ma_lines.proofs.Dropped.{drops_returns}
use Rattle.ma_lines.proofs.laws.returns_are_dropped.Goals as goal

pub returns : goal.returns
returns c = drops_returns
