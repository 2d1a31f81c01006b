use Rattle.std.proofs.Common.{◌≡◌}
use Rattle.state_lines.specs.Left.{all_left, pair_in}
use Rattle.state_lines.proofs.Taken.{some_in, ahead}
use Rattle.state_lines.proofs.read.read_pairs.Given as goal

abbrev pub invariant-loop-missing : goal.invariant-loop-missing
invariant-loop-missing l = some_in pair_in l.fn.count (all_left l.fn.words)
    ≡ ahead l.pairs.items (some_in pair_in l.missing (all_left l.words))

abbrev pub decreases-loop-missing : goal.decreases-loop-missing
decreases-loop-missing l = l.missing
