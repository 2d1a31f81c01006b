use Rattle.std.proofs.Common.{◌≡◌, ℕ, ℤ, List, take}
use Rattle.tree_tables.specs.Children.{sizes_of}
use Rattle.tree_tables.proofs.sizes.+size.Given as goal

abbrev pub invariant-size_of_all-loop-component : goal.invariant-size_of_all-loop-component
invariant-size_of_all-loop-component l =
    (settings : ℕ → List ℤ) → l.total ≡ sizes_of (take l.component-index l.components) settings
