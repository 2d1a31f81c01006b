use Rattle.std.proofs.Common.{◌≡◌, ◌≤◌}
use Rattle.std.specs.List.{range_with_len}
use Rattle.std.specs.Vec.{vec_capacity}
use Rattle.time_queue.proofs.ranks.Ranks.new.Given as goal

abbrev pub invariant-loop-leaf : goal.invariant-loop-leaf
invariant-loop-leaf l = record {
  order : l.order.items ≡ range_with_len 0 l.leaf;
  places : l.places.items ≡ range_with_len 0 l.leaf;
  order_room : l.n ≤ vec_capacity l.order;
  places_room : l.n ≤ vec_capacity l.places;
}
