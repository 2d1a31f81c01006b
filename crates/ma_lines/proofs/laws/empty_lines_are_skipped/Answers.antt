use Rattle.ma_lines.proofs.Unnumbered.{skips_empty_lines}
use Rattle.ma_lines.proofs.laws.empty_lines_are_skipped.Goals as goal

pub returns : goal.returns
returns c = skips_empty_lines
