use Rattle.std.proofs.Common.{◌≡◌, ◌<◌, length}
use Rattle.time_queue.specs.Heap.{AreFirst, IsHeapBut, time_at}
use Rattle.time_queue.proofs.heap.sift_up.Given as goal

abbrev pub invariant-loop-place : goal.invariant-loop-place
invariant-loop-place l = record {
  within : l.place < l.waiting;
  same : length l.ranks.order.items ≡ length l.fn.ranks.order.items;
  first : AreFirst l.times l.ranks.order.items l.waiting;
  heap : IsHeapBut l.waiting (time_at l.times l.ranks.order.items) l.place;
}

abbrev pub decreases-loop-place : goal.decreases-loop-place
decreases-loop-place l = l.place
