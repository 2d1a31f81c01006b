use Rattle.std.proofs.Common.{◌≡◌, length}
use Rattle.std.specs.Vec.{vec_capacity}
use Rattle.leaf_set.proofs.TakenWords.{BlockIsTaken}
use Rattle.leaf_set.proofs.words.take_block.Given as goal

abbrev pub invariant-marks : goal.invariant-marks
invariant-marks l = record {
  taken : BlockIsTaken l.fn.words l.words l.fn.into.items l.into.items l.block l.left;
  same : length l.words ≡ length l.fn.words;
  capacity : vec_capacity l.into ≡ vec_capacity l.fn.into;
}

abbrev pub decreases-marks : goal.decreases-marks
decreases-marks l = l.left
