-- Private: a group by its number.
use Rattle.std.specs.Prelude.{◌≡◌, ℕ, ◌+◌, Some, List, ℤ, length, slice_get}
use Rattle.std.specs.List.{flat_map}
use Rattle.model_tree.specs.declared.component.Component.{Component}
use Rattle.model_leaves.specs.declared.find.Nth as N
use Rattle.model_leaves.specs.declared.find.Nth.TheVariants as nth
use Rattle.model_tree.specs.Tree.{Group, groups}
use Rattle.model_tree.specs.Stands.{group_of, part_of}

-- the group of this number among these, or how far it is past them
abbrev pub NthIs : N.Nth → List Group → ℕ → Type 0
NthIs (nth.Group g) gs number = slice_get gs number ≡ Some (group_of g.now)
NthIs (nth.Past n) gs number = number ≡ length gs + n

-- the groups of some components
abbrev pub groups_of_all : List Component → (ℕ → List ℤ) → List Group
groups_of_all cs settings = flat_map (λ c. groups (part_of c settings)) cs
