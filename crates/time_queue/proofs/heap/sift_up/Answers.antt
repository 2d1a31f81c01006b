use Rattle.std.proofs.Common.{◌-◌, ◌/◌, ◌<◌, ◌∙◌, arith}
use Rattle.std.proofs.lemmas.Grind.{common_steps}
use Rattle.time_queue.specs.Heap.{time_at}
use Rattle.time_queue.proofs.Heaps.{up_step}
use Rattle.time_queue.proofs.Standing.{swapped_times, swapped_length, first_swapped}
use Rattle.time_queue.proofs.heap.sift_up.Goals as goal

pub loop-place-preserved : goal.loop-place-preserved
loop-place-preserved c =
    let times = c.args.times.now in
    let order = c.loop-place.ranks.order.items in
    let after = c.swap.new.self.order.items in
    let n = c.args.waiting in
    let place = c.loop-place.place in
    let above = (place - 1) / 2 in
    let held = c.loop-place.invariant in
    let before : time_at times order place < time_at times order above = grind (arith, common_steps) in
    record {
      within = omega (arith, held.within);
      same = swapped_length order after place above c.swap.ensures ∙ held.same;
      first = first_swapped times order after n place above (omega (arith, held.same, c.requires.all)) held.within (omega (arith, held.within)) c.swap.ensures held.first;
      heap = up_step n (time_at times order) (time_at times after) place above (omega arith) (omega arith) held.within before (swapped_times times order after place above (omega (arith, held.within, held.same, c.requires.all)) (omega (arith, held.within, held.same, c.requires.all)) c.swap.ensures) held.heap;
    }
