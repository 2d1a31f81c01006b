use Rattle.std.proofs.Common.{◌≡◌, map, drop}
use Rattle.run_loop.specs.Counts.{ones_after}
use Rattle.run_loop.specs.Showing.{plain}
use Rattle.run_loop.proofs.counted.mark.Given as goal

abbrev pub invariant-loop-one : goal.invariant-loop-one
invariant-loop-one l = ones_after l.ones.items (map plain (drop l.one-index l.given)) ≡ ones_after l.fn.ones.items (map plain l.given)
