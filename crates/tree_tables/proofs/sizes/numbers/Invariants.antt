use Rattle.std.proofs.Common.{◌≡◌, ◌+◌, ℕ, ℤ, List, take}
use Rattle.tree_tables.specs.Children.{sizes_of, numbers_of}
use Rattle.tree_tables.proofs.sizes.numbers.Given as goal

abbrev pub invariant-loop-component : goal.invariant-loop-component
invariant-loop-component l =
    record {
      all : (settings : ℕ → List ℤ) → l.all.items ≡ numbers_of (take l.component-index l.components) settings l.first;
      next : (settings : ℕ → List ℤ) → l.next ≡ l.first + sizes_of (take l.component-index l.components) settings;
    }
