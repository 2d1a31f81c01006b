use Rattle.std.proofs.Common.{◌≡◌, length}
use Rattle.text_forms.specs.LeafStates.{rises}
use Rattle.state_lines.proofs.compare.rises.Given as goal

abbrev pub invariant-loop-left : goal.invariant-loop-left
invariant-loop-left l = rises l.fn.before l.fn.pairs ≡ rises l.last l.left

abbrev pub decreases-loop-left : goal.decreases-loop-left
decreases-loop-left l = length l.left
