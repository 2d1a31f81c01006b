use Rattle.std.proofs.Common.{◌≡◌, ◌+◌, ℕ, List, ℤ, take, length}
use Rattle.model_leaves.specs.Nth.{groups_of_all}
use Rattle.model_leaves.proofs.find.+find.Given as goal

abbrev pub invariant-nth_group_of_all-loop-child : goal.invariant-nth_group_of_all-loop-child
invariant-nth_group_of_all-loop-child l =
    (settings : ℕ → List ℤ) → l.number ≡ length (groups_of_all (take l.child-index l.children) settings) + l.left
