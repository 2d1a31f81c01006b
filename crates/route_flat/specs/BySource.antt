-- The lists of targets by the numbers of their sources.
use Rattle.std.specs.Prelude.{◌≡◌, ℕ, ◌==◌, List, [], ◌∷◌, ◌++◌, map, slice_index_or, if◌then◌else◌}
use Rattle.model_leaves.specs.declared.path.Source.{Source}
use Rattle.model_leaves.specs.declared.path.Source.TheVariants.{Leaf, TopIn}
use Rattle.model_leaves.specs.declared.path.Target.{Target}
use Rattle.route_flat.specs.declared.by_source.BySource.{BySource}

-- the list of a source
abbrev pub list_from : BySource → Source → List Target
list_from b (Leaf l) = slice_index_or (map (λ v. v.items) b.leaves.items) l []
list_from b (TopIn k) = slice_index_or (map (λ v. v.items) b.tops.items) k []

-- a target stands behind the others of a number, and the lists of all other numbers stay
abbrev pub PutsAt : ℕ → Target → List (List Target) → List (List Target) → Type 0
PutsAt number target old new =
    (k : ℕ) → slice_index_or new k []
    ≡ (if k == number then slice_index_or old k [] ++ target ∷ [] else slice_index_or old k [])
