use Rattle.std.proofs.Common.{◌-◌, ◌<◌, ◌≤◌, length}
use Rattle.run_leaves.specs.Stretched.{number_at}
use Rattle.run_leaves.proofs.stretches.further.Given as goal

abbrev pub invariant-halves : goal.invariant-halves
invariant-halves l = record {
  from : l.low ≤ number_at l.starts l.leaf;
  below : number_at l.starts l.leaf < l.high;
  within : l.high ≤ length l.starts;
}

abbrev pub decreases-halves : goal.decreases-halves
decreases-halves l = l.high - l.low
