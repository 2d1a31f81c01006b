use Rattle.std.proofs.Common.{◌≡◌, ◌<◌, ◌-◌, length}
use Rattle.time_queue.specs.Heap.{AreFirst, IsHeapBut, IsBelow, time_at}
use Rattle.time_queue.proofs.heap.sift_down.Given as goal

abbrev pub invariant-loop-child : goal.invariant-loop-child
invariant-loop-child l = record {
  within : l.place < l.waiting;
  same : length l.ranks.order.items ≡ length l.fn.ranks.order.items;
  first : AreFirst l.times l.ranks.order.items l.waiting;
  heap : IsHeapBut l.waiting (time_at l.times l.ranks.order.items) l.place;
  below : IsBelow (time_at l.times l.ranks.order.items) l.place;
}

abbrev pub decreases-loop-child : goal.decreases-loop-child
decreases-loop-child l = l.waiting - l.place
