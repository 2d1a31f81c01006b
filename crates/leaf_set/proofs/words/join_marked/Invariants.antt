use Rattle.std.proofs.Common.{◌≡◌, ℕ, ◌*◌, ◌<◌, true, length}
use Rattle.leaf_set.specs.Words.{has, Grows}
use Rattle.leaf_set.proofs.words.join_marked.Given as goal

abbrev pub invariant-loop-block : goal.invariant-loop-block
invariant-loop-block l = record {
  grows : Grows l.fn.words l.more l.words;
  joined : (i : ℕ) → i < 4096 * l.block → has l.more i ≡ true → has l.words i ≡ true;
  marks_grow : Grows l.fn.marks l.more_marks l.marks;
  marks_joined : (i : ℕ) → i < 64 * l.block → has l.more_marks i ≡ true → has l.marks i ≡ true;
  same : length l.words ≡ length l.fn.words;
  wide : length l.marks ≡ length l.fn.marks;
  end : l.all ≡ length l.fn.marks;
}
