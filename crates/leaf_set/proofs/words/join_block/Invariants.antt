use Rattle.std.proofs.Common.{◌≡◌, length}
use Rattle.leaf_set.specs.Words.{Grows}
use Rattle.leaf_set.proofs.Joined.{AreJoined}
use Rattle.leaf_set.proofs.words.join_block.Given as goal

abbrev pub invariant-marks : goal.invariant-marks
invariant-marks l = record {
  grows : Grows l.fn.words l.more l.words;
  joined : AreJoined l.more l.words l.block l.left;
  same : length l.words ≡ length l.fn.words;
}

abbrev pub decreases-marks : goal.decreases-marks
decreases-marks l = l.left
