use Rattle.std.proofs.Common.{◌≡◌, ◌+◌, ◌-◌, ℕ, [], map, get_or, length}
use Rattle.route_flat.proofs.by_source.reach.Given as goal

abbrev pub invariant-loop-alloc : goal.invariant-loop-alloc
invariant-loop-alloc l =
    (k : ℕ) → get_or (map (λ v. v.items) l.lists.items) k [] ≡ get_or (map (λ v. v.items) l.fn.lists.items) k []

abbrev pub decreases-loop-alloc : goal.decreases-loop-alloc
decreases-loop-alloc l = l.number + 1 - length l.lists.items
