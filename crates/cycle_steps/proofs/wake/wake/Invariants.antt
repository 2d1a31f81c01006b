use Rattle.std.proofs.Common.{◌≡◌, ℕ, ◌||◌, length, drop}
use Rattle.leaf_set.specs.Members.{is_in}
use Rattle.cycle_steps.specs.Watching.{watches_any}
use Rattle.cycle_steps.proofs.wake.wake.Given as goal

abbrev pub invariant-loop-leaf : goal.invariant-loop-leaf
invariant-loop-leaf g l = record {
  long : length (g.S.LeafSet.members l.woken) ≡ length (g.S.LeafSet.members l.fn.woken);
  woken : (k : ℕ) → (is_in (g.S.LeafSet.members l.fn.woken) k || watches_any (g.W.Watched.watches l.watched) l.givers k) ≡ (is_in (g.S.LeafSet.members l.woken) k || watches_any (g.W.Watched.watches l.watched) (drop l.leaf-index l.givers) k);
}
