use Rattle.std.proofs.Common.{◌≡◌, ◌≤◌, ◌+◌, ◌-◌, length, drop}
use Rattle.std.specs.VecDeque.{deque_len, deque_capacity}
use Rattle.atomic_face.specs.Queue.{queue_inputs}
use Rattle.atomic_kinds.specs.Queue.{state_in}
use Rattle.atomic_kinds.proofs.queue.QueueModel.take_all.Given as goal

abbrev pub invariant-loop-input : goal.invariant-loop-input
invariant-loop-input l =
    (queue_inputs (state_in l.self) (drop l.input-index l.bag) ≡ queue_inputs (state_in l.initial.self) l.bag)
    × (l.self.preparation ≡ l.initial.self.preparation)
    × (deque_len l.self.waiting + (length l.bag - l.input-index) ≤ deque_capacity l.self.waiting)
