-- Private: what the laying of values does to components: the plain tree is laid, and the table
-- stays.
use Rattle.std.specs.Prelude.{◌≡◌, ℕ, ℤ, List, [], ◌∷◌, drop}
use Rattle.quantity.specs.declared.value.Value.{Value}
use Rattle.model_tree.specs.declared.component.Component.{Component}
use Rattle.model_tree.specs.Stands.{part_of}
use Rattle.model_leaves.specs.Laid.{laid_from}
use Rattle.model_leaves.specs.Table.{seats_from, groups_in}

-- the values are those of the groups from the first on
pub record IsLaid (old new : Component) (values : List (List Value)) : Type 0 where
  pub tree : (settings : ℕ → List ℤ) (all : List (List Value)) (first : ℕ) → values ≡ drop first all
      → part_of new settings ≡ laid_from (part_of old settings) first all
  pub table : (number : ℕ) → seats_from new number ≡ seats_from old number
  pub groups : groups_in new ≡ groups_in old

-- components with these initial values, one after another
abbrev pub AreLaid : List Component → List Component → List (List Value) → Type 0
AreLaid [] [] values = Unit {0}
AreLaid [] (d ∷ ds) values = ⊥
AreLaid (c ∷ cs) [] values = ⊥
AreLaid (c ∷ cs) (d ∷ ds) values = IsLaid c d values × AreLaid cs ds (drop (groups_in c) values)
