use Rattle.std.proofs.Common.{◌≡◌, ◌<◌, ℕ, Some, take}
use Rattle.std.specs.Prelude.{slice_index}
use Rattle.std.specs.Vec.{vec_capacity}
use Rattle.time_queue.specs.Waiting.{waiting_time}
use Rattle.time_queue.proofs.heap.copy_front.Given as goal

abbrev pub invariant-loop-place : goal.invariant-loop-place
invariant-loop-place l = record {
  front : l.into.items ≡ take l.place l.ranks.order.items;
  wait : (k : ℕ) → k < l.place → waiting_time l.times (slice_index l.ranks.order.items k) ≡ Some l.at;
  capacity : vec_capacity l.into ≡ vec_capacity l.fn.into;
}
