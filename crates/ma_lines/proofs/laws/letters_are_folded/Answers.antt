use Rattle.ma_lines.proofs.FoldedFiles.{folds_letters}
use Rattle.ma_lines.proofs.laws.letters_are_folded.Goals as goal

pub returns : goal.returns
returns c = folds_letters
