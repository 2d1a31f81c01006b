use Rattle.std.proofs.Common.{◌<◌, Some, sym, ap, ◌∙◌, arith}
use Rattle.time_queue.specs.Waiting.{least_time}
use Rattle.time_queue.proofs.Standing.{ranked_least, ranked_none}
use Rattle.time_queue.proofs.heap.HeapQueueDueFirst.first.Goals as goal

pub returns-then-self-eq0-clause-none : goal.returns-then-self-eq0-clause-none
returns-then-self-eq0-clause-none c =
    let q = c.self.inside in
    ap least_time (sym c.self.view_is) ∙ ranked_none q.times.items q.ranks.order.items q.ranks.places.items q.waiting q.ranks.inverse c.self.invariant c.if-self-eq0.true

pub returns-clause-least : goal.returns-clause-least
returns-clause-least c =
    let q = c.self.inside in
    let some : 0 < q.waiting = omega arith in
    let root = rw c.deref.ensures.value at c.time_at-at.ensures in
    ap least_time (sym c.self.view_is) ∙ ranked_least q.times.items q.ranks.order.items q.ranks.places.items q.waiting q.ranks.inverse c.self.invariant some ∙ ap Some (sym root)
