use Rattle.std.proofs.Common.{◌≡◌, ◌∙◌, ap, None, replicate, arith, rules}
use Rattle.time_queue.proofs.Standing.{ranked_start}
use Rattle.time_queue.proofs.heap.HeapQueue.with_leaves.Goals as goal

pub invariant_of-result : goal.invariant_of-result
invariant_of-result c =
    let times : c.in_ok-times.times.items ≡ replicate c.args.n None = c.in_ok-times.ensures.items_if_clones_equal (λ y clone. search rules) ∙ ap (replicate c.args.n) c.none.ensures in
    rw (times, c.in_ok-ranks.ensures) (ranked_start c.args.n (omega (arith, c.ranges.n.fits)))
