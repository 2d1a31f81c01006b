use Rattle.std.proofs.Common.{◌≡◌, ℕ, ◌||◌, length, drop}
use Rattle.leaf_set.specs.Members.{is_in}
use Rattle.sparse_cycle.specs.Wake.{is_fed}
use Rattle.cycle_steps.specs.Untimed.{x_records}
use Rattle.cycle_steps.proofs.wake.mark_fed.Given as goal

abbrev pub invariant-loop-r : goal.invariant-loop-r
invariant-loop-r g l = record {
  long : length (g.S.LeafSet.members l.set) ≡ length (g.S.LeafSet.members l.fn.set);
  marked : (k : ℕ) → (is_in (g.S.LeafSet.members l.fn.set) k || is_fed (x_records l.fed) k) ≡ (is_in (g.S.LeafSet.members l.set) k || is_fed (x_records (drop l.r-index l.fed)) k);
}
