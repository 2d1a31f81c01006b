use Rattle.std.proofs.Common.{◌≡◌, true, ◌≤◌}
use Rattle.std.specs.VecDeque.{deque_len, deque_capacity}
use Rattle.atomic_kinds.specs.Pairs.{left_at, rises_from}
use Rattle.atomic_kinds.proofs.cpu.leave.Given as goal

abbrev pub invariant-loop-now : goal.invariant-loop-now
invariant-loop-now l =
    (left_at l.now l.pairs.items ≡ left_at l.now l.initial.pairs.items)
    × (rises_from 0 l.pairs.items ≡ true)
    × (deque_len l.pairs ≤ deque_len l.initial.pairs)
    × (deque_capacity l.pairs ≡ deque_capacity l.initial.pairs)

abbrev pub decreases-loop-now : goal.decreases-loop-now
decreases-loop-now l = deque_len l.pairs
