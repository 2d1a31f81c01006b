use Rattle.std.proofs.Common.{◌≡◌, ◌*◌, length}
use Rattle.std.specs.Vec.{vec_capacity}
use Rattle.leaf_set.proofs.TakenWords.{AllAreTaken}
use Rattle.leaf_set.proofs.words.take_marked.Given as goal

abbrev pub invariant-loop-block : goal.invariant-loop-block
invariant-loop-block l = record {
  taken : AllAreTaken l.fn.words l.words l.marks l.fn.into.items l.into.items l.block (64 * length l.fn.words);
  same : length l.words ≡ length l.fn.words;
  wide : length l.marks ≡ length l.fn.marks;
  end : l.blocks ≡ length l.fn.marks;
  capacity : vec_capacity l.into ≡ vec_capacity l.fn.into;
}
