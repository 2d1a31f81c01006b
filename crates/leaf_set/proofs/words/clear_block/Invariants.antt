use Rattle.std.proofs.Common.{◌≡◌, ℕ, List, [], length}
use Rattle.leaf_set.proofs.TakenWords.{BlockIsTaken}
use Rattle.leaf_set.proofs.words.clear_block.Given as goal

abbrev pub invariant-marks : goal.invariant-marks
invariant-marks l = record {
  cleared : (items : List ℕ) × BlockIsTaken l.fn.words l.words [] items l.block l.left;
  same : length l.words ≡ length l.fn.words;
}

abbrev pub decreases-marks : goal.decreases-marks
decreases-marks l = l.left
