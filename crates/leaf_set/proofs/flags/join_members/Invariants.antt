use Rattle.std.proofs.Common.{◌≡◌, ℕ, ◌<◌, ◌≤◌, ◌||◌, length}
use Rattle.leaf_set.specs.Members.{is_in}
use Rattle.leaf_set.proofs.flags.join_members.Given as goal

abbrev pub invariant-loop-leaf : goal.invariant-loop-leaf
invariant-loop-leaf l = record {
  joined : (k : ℕ) → k < l.leaf → is_in l.members k ≡ (is_in l.fn.members k || is_in l.more k);
  left : (k : ℕ) → l.leaf ≤ k → is_in l.members k ≡ is_in l.fn.members k;
  same : length l.members ≡ length l.fn.members;
  end : l.leaves ≡ length l.fn.members;
}
