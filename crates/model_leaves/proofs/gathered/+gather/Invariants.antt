use Rattle.std.proofs.Common.{◌≡◌, ◌++◌, ℕ, List, ℤ, take}
use Rattle.model_leaves.specs.Nth.{groups_of_all}
use Rattle.model_leaves.specs.Grouped.{groups_shown}
use Rattle.model_leaves.proofs.gathered.+gather.Given as goal

abbrev pub invariant-gather_all-loop-child : goal.invariant-gather_all-loop-child
invariant-gather_all-loop-child l =
    (settings : ℕ → List ℤ) → groups_shown l.found.items
    ≡ groups_shown l.fn.found.items ++ groups_of_all (take l.child-index l.children) settings
