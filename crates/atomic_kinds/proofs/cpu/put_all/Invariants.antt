use Rattle.std.proofs.Common.{◌≡◌, true, ◌≤◌, ◌+◌, ◌-◌, length, drop}
use Rattle.std.specs.VecDeque.{deque_len, deque_capacity}
use Rattle.atomic_face.specs.Cpu.{cpu_inputs}
use Rattle.atomic_kinds.specs.Pairs.{rises_from, word_pairs}
use Rattle.atomic_kinds.proofs.cpu.put_all.Given as goal

abbrev pub invariant-loop-input : goal.invariant-loop-input
invariant-loop-input l =
    (cpu_inputs l.at (word_pairs l.pairs.items) (drop l.input-index l.bag) ≡ cpu_inputs l.at (word_pairs l.initial.pairs.items) l.bag)
    × (rises_from 0 l.pairs.items ≡ true)
    × (deque_len l.pairs + (length l.bag - l.input-index) ≤ deque_capacity l.pairs)
