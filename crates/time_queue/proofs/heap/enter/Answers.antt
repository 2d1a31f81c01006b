use Rattle.std.proofs.Common.{arith}
use Rattle.time_queue.proofs.Moved.{placed, again_heap, more_first, more_heap}
use Rattle.time_queue.proofs.heap.enter.Goals as goal

pub settle-requires-clause-heap : goal.settle-requires-clause-heap
settle-requires-clause-heap c =
    let times = c.args.times.now.items in
    let order = c.args.ranks.now.order.items in
    let places = c.args.ranks.now.places.items in
    let ranked = c.requires.ranked in
    let here = placed order places c.args.leaf c.index-place.result.now c.args.ranks.now.inverse (omega (arith, ranked.same, c.requires.within)) c.index-place.ensures in
    rw (c.deref.ensures.value, c.some.ensures) (again_heap times order places c.args.waiting c.index-place.result.now c.args.leaf c.args.at c.args.ranks.now.inverse ranked c.if-place-waiting.true here.1)

pub settle-requires-2-clause-first : goal.settle-requires-2-clause-first
settle-requires-2-clause-first c =
    let times = c.args.times.now.items in
    let order = c.args.ranks.now.order.items in
    let after = c.swap.new.self in
    let ranked = c.requires.ranked in
    let here = placed order c.args.ranks.now.places.items c.args.leaf c.index-place.result.now c.args.ranks.now.inverse (omega (arith, ranked.same, c.requires.within)) c.index-place.ensures in
    rw (c.deref-2.ensures.value, c.some-2.ensures) (more_first times order after.order.items after.places.items c.args.waiting c.index-place.result.now c.args.leaf c.args.at after.inverse ranked c.if-place-waiting.false here.0 here.1 c.requires.within c.swap.ensures)

pub settle-requires-2-clause-heap : goal.settle-requires-2-clause-heap
settle-requires-2-clause-heap c =
    let times = c.args.times.now.items in
    let order = c.args.ranks.now.order.items in
    let after = c.swap.new.self in
    let ranked = c.requires.ranked in
    let here = placed order c.args.ranks.now.places.items c.args.leaf c.index-place.result.now c.args.ranks.now.inverse (omega (arith, ranked.same, c.requires.within)) c.index-place.ensures in
    rw (c.deref-2.ensures.value, c.some-2.ensures) (more_heap times order after.order.items after.places.items c.args.waiting c.index-place.result.now c.args.leaf c.args.at after.inverse ranked c.if-place-waiting.false here.0 here.1 c.swap.ensures)
