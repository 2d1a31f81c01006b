-- Private: the numbers of rule sets as they are kept.
use Rattle.std.specs.Prelude.{ℕ, List, [], ◌∷◌, replicate}

-- where none is kept, each of so many cells goes by the first set
abbrev pub numbers_of : ℕ → List ℕ → List ℕ
numbers_of cells [] = replicate cells 0
numbers_of cells (k ∷ ks) = k ∷ ks
