use Rattle.std.proofs.Common.{◌≡◌, ◌*◌, ℕ, List, [], length}
use Rattle.leaf_set.proofs.TakenWords.{AllAreTaken}
use Rattle.leaf_set.proofs.words.clear_marked.Given as goal

abbrev pub invariant-loop-block : goal.invariant-loop-block
invariant-loop-block l = record {
  cleared : (items : List ℕ) × AllAreTaken l.fn.words l.words l.marks [] items l.block (64 * length l.fn.words);
  same : length l.words ≡ length l.fn.words;
  wide : length l.marks ≡ length l.fn.marks;
  end : l.count ≡ length l.fn.marks;
}
