use Rattle.std.proofs.Common.{◌∙◌, arith}
use Rattle.time_queue.specs.Heap.{time_at}
use Rattle.time_queue.proofs.Heaps.{down_step, down_below}
use Rattle.time_queue.proofs.Standing.{swapped_times, swapped_length, first_swapped}
use Rattle.time_queue.proofs.heap.sift_down.Goals as goal

pub loop-child-preserved : goal.loop-child-preserved
loop-child-preserved c =
    let times = c.args.times.now in
    let order = c.loop-child.ranks.order.items in
    let after = c.swap.new.self.order.items in
    let n = c.args.waiting in
    let place = c.loop-child.place in
    let child = c.in-Some.child in
    let held = c.loop-child.invariant in
    let there = c.in-Some.ensures.child in
    let swapped = swapped_times times order after place child (omega (arith, held.within, held.same, c.requires.all)) (omega (arith, there.2, held.same, c.requires.all)) c.swap.ensures in
    record {
      within = there.2;
      same = swapped_length order after place child c.swap.ensures ∙ held.same;
      first = first_swapped times order after n place child (omega (arith, held.same, c.requires.all)) held.within there.2 c.swap.ensures held.first;
      heap = down_step n (time_at times order) (time_at times after) place child there.0 there.1 there.2 c.in-Some.ensures.before c.in-Some.ensures.least swapped held.heap;
      below = down_below (time_at times order) (time_at times after) place child there.0 there.1 c.in-Some.ensures.before swapped;
    }
