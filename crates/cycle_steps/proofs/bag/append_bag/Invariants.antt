use Rattle.std.proofs.Common.{◌≡◌, ◌++◌, drop}
use Rattle.sparse_cycle.specs.Sparse.{bag_in}
use Rattle.cycle_steps.specs.Untimed.{x_records}
use Rattle.cycle_steps.proofs.bag.append_bag.Given as goal

abbrev pub invariant-loop-r : goal.invariant-loop-r
invariant-loop-r l = l.fn.into.items ++ bag_in (x_records l.rest) l.leaf ≡ l.into.items ++ bag_in (x_records (drop l.r-index l.rest)) l.leaf
