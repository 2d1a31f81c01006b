use Rattle.std.proofs.Common.{◌-◌, sym, ap, ◌∙◌, arith}
use Rattle.std.specs.Prelude.{slice_index}
use Rattle.time_queue.proofs.Moved.{placed, still_none, fewer_first, fewer_but, last_ranked}
use Rattle.time_queue.proofs.heap.leave.Goals as goal

pub returns-then-place-waiting-clause-times : goal.returns-then-place-waiting-clause-times
returns-then-place-waiting-clause-times c =
    let order = c.args.ranks.now.order.items in
    let here = placed order c.args.ranks.now.places.items c.args.leaf c.index-place.result.now c.args.ranks.now.inverse (omega (arith, c.requires.ranked.same, c.requires.within)) c.index-place.ensures in
    still_none c.args.times.now.items order c.args.waiting c.index-place.result.now c.args.leaf c.requires.ranked c.if-place-waiting.true here.0 here.1

pub returns-then-place-last-clause-ranked : goal.returns-then-place-last-clause-ranked
returns-then-place-last-clause-ranked c =
    let ranks = c.args.ranks.now in
    let here = placed ranks.order.items ranks.places.items c.args.leaf c.index-place.result.now ranks.inverse (omega (arith, c.requires.ranked.same, c.requires.within)) c.index-place.ensures in
    rw c.none.ensures (last_ranked c.args.times.now.items ranks.order.items ranks.places.items c.args.waiting (c.args.waiting - 1) c.args.leaf ranks.inverse c.requires.ranked (omega arith)
    (ap (slice_index ranks.order.items) (sym c.if-place-last.true) ∙ here.1) c.requires.within)

pub settle-requires-clause-first : goal.settle-requires-clause-first
settle-requires-clause-first c =
    let order = c.args.ranks.now.order.items in
    let after = c.swap.new.self in
    let here = placed order c.args.ranks.now.places.items c.args.leaf c.index-place.result.now c.args.ranks.now.inverse (omega (arith, c.requires.ranked.same, c.requires.within)) c.index-place.ensures in
    rw (c.deref.ensures.value, c.none-2.ensures) (fewer_first c.args.times.now.items order after.order.items after.places.items c.args.waiting (c.args.waiting - 1) c.index-place.result.now c.args.leaf after.inverse c.requires.ranked (omega arith) c.if-place-waiting.false here.1 c.requires.within c.swap.ensures)

pub settle-requires-clause-heap : goal.settle-requires-clause-heap
settle-requires-clause-heap c =
    let order = c.args.ranks.now.order.items in
    let after = c.swap.new.self in
    let here = placed order c.args.ranks.now.places.items c.args.leaf c.index-place.result.now c.args.ranks.now.inverse (omega (arith, c.requires.ranked.same, c.requires.within)) c.index-place.ensures in
    rw (c.deref.ensures.value, c.none-2.ensures) (fewer_but c.args.times.now.items order after.order.items after.places.items c.args.waiting (c.args.waiting - 1) c.index-place.result.now c.args.leaf after.inverse c.requires.ranked (omega arith) c.if-place-waiting.false here.1 c.swap.ensures)
