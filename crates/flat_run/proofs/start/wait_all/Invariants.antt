use Rattle.flat_run.proofs.Starts.{WaitUpTo}
use Rattle.flat_run.proofs.start.wait_all.Given as goal

abbrev pub invariant-loop-leaf : goal.invariant-loop-leaf
invariant-loop-leaf g l = WaitUpTo l.leaf (g.Q.TimeQueue.waiting l.queue) l.leaves.states
