use Rattle.std.proofs.Common.{◌≡◌, ℕ, ◌||◌, length, drop}
use Rattle.leaf_set.specs.Members.{is_in}
use Rattle.quantity.specs.Bytes.{has_number}
use Rattle.cycle_steps.proofs.wake.mark_all.Given as goal

abbrev pub invariant-loop-leaf : goal.invariant-loop-leaf
invariant-loop-leaf g l = record {
  long : length (g.S.LeafSet.members l.set) ≡ length (g.S.LeafSet.members l.fn.set);
  marked : (k : ℕ) → (is_in (g.S.LeafSet.members l.fn.set) k || has_number l.leaves k) ≡ (is_in (g.S.LeafSet.members l.set) k || has_number (drop l.leaf-index l.leaves) k);
}
