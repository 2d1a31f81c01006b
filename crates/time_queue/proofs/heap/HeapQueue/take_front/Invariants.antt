use Rattle.std.proofs.Common.{◌≡◌, ◌<◌, ◌≤◌, ℕ, Some, length, drop}
use Rattle.std.specs.Prelude.{slice_index}
use Rattle.time_queue.specs.Waiting.{waiting_time}
use Rattle.time_queue.specs.Taking.{TakesMore}
use Rattle.time_queue.proofs.heap.HeapQueue.take_front.Given as goal

abbrev pub invariant-loop-left : goal.invariant-loop-left
invariant-loop-left l = record {
  within : l.left ≤ length l.into.items;
  taken : TakesMore l.fn.at l.fn.self l.self l.fn.into.items (drop l.left l.into.items);
  wait : (k : ℕ) → k < l.left → waiting_time l.self (slice_index l.into.items k) ≡ Some l.fn.at;
}

abbrev pub decreases-loop-left : goal.decreases-loop-left
decreases-loop-left l = l.left
