use Rattle.std.proofs.Common.{◌≡◌, ℕ, List, ℤ, drop}
use Rattle.model_tree.specs.Causes.{child_in}
use Rattle.model_tree.proofs.faces.child_named.Given as goal

abbrev pub invariant-loop-child : goal.invariant-loop-child
invariant-loop-child l =
    (settings : ℕ → List ℤ) → child_in (drop l.child-index l.children) settings l.name ≡ child_in l.children settings l.name
