use Rattle.std.proofs.Common.{ap, rules, ◌∙◌, map, ◌≡◌}
use Rattle.std.proofs.lemmas.List.Sorted.{IsNonDecreasingBy-from_sort_by_key, answers_always}
use Rattle.event_list.specs.Shown.{plain_event, time_of}
use Rattle.event_list.proofs.Sorting.{shown-sorted, stable_is_sorted}
use Rattle.event_list.proofs.list.sort_by_time.Goals as goal

pub returns-clause-sorted : goal.returns-clause-sorted
returns-clause-sorted c = IsNonDecreasingBy-from_sort_by_key time_of _ c.in_ok-sort_by_key.ensures.sorted (λ a r q k. search rules)

pub returns-clause-order : goal.returns-clause-order
returns-clause-order c =
    let up = IsNonDecreasingBy-from_sort_by_key time_of _ c.in_ok-sort_by_key.ensures.sorted (λ a r q k. search rules) in
    ap (map plain_event) (stable_is_sorted time_of c.args.events.now.items _ up (c.in_ok-sort_by_key.ensures.stable time_of (answers_always _ (λ a r. r ≡ time_of a.0.now) _ (λ f a r q k. search rules))))
    ∙ shown-sorted c.args.events.now.items
