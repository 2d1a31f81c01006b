use Rattle.std.proofs.Common.{arith}
use Rattle.time_queue.proofs.Fronts.{front_is}
use Rattle.time_queue.proofs.heap.copy_front.Goals as goal

pub returns-then-ne-clause-front : goal.returns-then-ne-clause-front
returns-then-ne-clause-front c =
    front_is c.args.at c.args.times.now c.args.ranks.now.order.items c.args.ranks.now.places.items c.loop-place.into.items c.args.waiting c.loop-place.place c.args.ranks.now.inverse c.requires.ranked (omega arith) c.loop-place.invariant.front c.loop-place.invariant.wait

pub returns-clause-front : goal.returns-clause-front
returns-clause-front c =
    front_is c.args.at c.args.times.now c.args.ranks.now.order.items c.args.ranks.now.places.items c.loop-place.into.items c.args.waiting c.loop-place.place c.args.ranks.now.inverse c.requires.ranked (omega arith) c.loop-place.invariant.front c.loop-place.invariant.wait
