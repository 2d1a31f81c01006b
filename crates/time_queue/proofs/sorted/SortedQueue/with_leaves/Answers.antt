use Rattle.std.proofs.Common.{◌≡◌, ℕ, Option, None, replicate, length, ap, arith, rules}
use Rattle.std.proofs.lemmas.List.{length-replicate}
use Rattle.time_queue.proofs.Entered.{none_entered, nothing_ordered}
use Rattle.time_queue.proofs.sorted.SortedQueue.with_leaves.Goals as goal

pub invariant_of-result : goal.invariant_of-result
invariant_of-result c =
    let n = c.args.n in
    let times : c.in_ok-times.times.items ≡ replicate n None = search rules in
    record {
      few = omega (arith, ap length times, length-replicate {A = Option ℕ} n None, c.ranges.n.fits);
      entered = rw (times, c.in_ok-entries.ensures.items) (none_entered n);
      ordered = rw c.in_ok-entries.ensures.items nothing_ordered;
      room = omega (arith, ap length times, length-replicate {A = Option ℕ} n None, c.in_ok-entries.ensures.capacity);
    }
