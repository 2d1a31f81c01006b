use Rattle.std.proofs.lemmas.List.Sorted.{IsNonDecreasingBy-from_sort, sum_by-IsPermutation, non_decreasing_from_is_sorted}
use Rattle.time_queue.proofs.due.sort.Goals as goal

pub returns-clause-rising : goal.returns-clause-rising
returns-clause-rising c = IsNonDecreasingBy-from_sort (λ x. x) c.sort_unstable.new.self.items c.sort_unstable.ensures.sorted

pub returns-clause-same : goal.returns-clause-same
returns-clause-same c = λ f. sum_by-IsPermutation f c.args.numbers.now.items c.sort_unstable.new.self.items c.sort_unstable.ensures.permutation

pub returns-then-is_sorted-clause-rising : goal.returns-then-is_sorted-clause-rising
returns-then-is_sorted-clause-rising c =
    let sorted = non_decreasing_from_is_sorted c.deref.result.now c.is_sorted.result c.is_sorted.ensures.cases in
    rw (← c.deref.ensures.value) (rw c.if-is_sorted.true at sorted)
