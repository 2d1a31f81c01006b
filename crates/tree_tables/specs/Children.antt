-- Private: the processors of some components, one behind another.
use Rattle.std.specs.Prelude.{ℕ, ℤ, ◌+◌, List, [], ◌∷◌, ◌++◌}
use Rattle.model_tree.specs.declared.component.Component.{Component}
use Rattle.model_tree.specs.Tree.{leaf_count}
use Rattle.model_tree.specs.Stands.{part_of}
use Rattle.served_tree.specs.Processors.{Processor, size, processors_from}

-- how many there are
abbrev pub sizes_of : List Component → (ℕ → List ℤ) → ℕ
sizes_of [] settings = 0
sizes_of (c ∷ cs) settings = size (part_of c settings) + sizes_of cs settings

-- how many leaves
abbrev pub leaves_of : List Component → (ℕ → List ℤ) → ℕ
leaves_of [] settings = 0
leaves_of (c ∷ cs) settings = leaf_count (part_of c settings) + leaves_of cs settings

-- the number of each component, from the first one's on
abbrev pub numbers_of : List Component → (ℕ → List ℤ) → ℕ → List ℕ
numbers_of [] settings n = []
numbers_of (c ∷ cs) settings n = n ∷ numbers_of cs settings (n + size (part_of c settings))

-- the processors, where the first one's number, parent and first leaf are these
abbrev pub processors_of : List Component → (ℕ → List ℤ) → ℕ → ℕ → ℕ → List Processor
processors_of [] settings n parent first = []
processors_of (c ∷ cs) settings n parent first =
    processors_from (part_of c settings) n parent first
    ++ processors_of cs settings (n + size (part_of c settings)) parent
    (first + leaf_count (part_of c settings))
