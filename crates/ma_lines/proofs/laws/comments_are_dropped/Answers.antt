use Rattle.ma_lines.proofs.Dropped.{drops_comments}
use Rattle.ma_lines.proofs.laws.comments_are_dropped.Goals as goal

pub returns : goal.returns
returns c = drops_comments
