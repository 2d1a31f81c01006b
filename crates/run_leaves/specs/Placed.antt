-- Private: what the leaves of a run start with: a place for each leaf, and a store for each group.
use Rattle.std.specs.Prelude.{◌≡◌, ℕ, Some, List, map, length, slice_get, IsTrue}
use Rattle.model_leaves.specs.declared.table.Model.{Model}
use Rattle.model_leaves.specs.declared.leaves.LeafAt.{LeafAt}
use Rattle.model_tree.specs.Tree.{Group, leaf_count, groups}
use Rattle.model_tree.specs.Sound.{is_sound_group}
use Rattle.model_leaves.specs.Leaves.{OfTree, IsPlaceOf}
use Rattle.run_model.specs.CellStep.{initial_cell}
use Rattle.cell_engine.specs.Cells.{Cells}
use Rattle.cell_engine.specs.Layout.{StandsFor}

-- each leaf stands at the place of its number
abbrev pub StandThere : Model → List LeafAt → Type 0
StandThere m seats = (l : ℕ) (a : LeafAt) → slice_get seats l ≡ Some a → IsPlaceOf m l a

-- a place for each leaf
pub record ArePlacesOf (m : Model) (seats : List LeafAt) : Type 0 where
  pub long : OfTree m (λ t. length seats ≡ leaf_count t)
  pub each : StandThere m seats

-- a store for the group of this number, with its cells at their start
pub record IsStoreOf (m : Model) (n : ℕ) (s : Cells) : Type 0 where
  pub group : Group
  pub numbered : OfTree m (λ t. slice_get (groups t) n ≡ Some group)
  pub layout : StandsFor group s.layout
  pub cells : s.cells ≡ map (initial_cell group) group.initial

-- each store is one for the group of its number
abbrev pub StoreGroups : Model → List Cells → Type 0
StoreGroups m stores = (n : ℕ) (s : Cells) → slice_get stores n ≡ Some s → IsStoreOf m n s

-- a store for each group
pub record AreStoresOf (m : Model) (stores : List Cells) : Type 0 where
  pub long : OfTree m (λ t. length stores ≡ length (groups t))
  pub each : StoreGroups m stores

-- each group is sound
abbrev pub HasSoundGroups : Model → Type 0
HasSoundGroups m =
    OfTree m (λ t. (n : ℕ) (g : Group) → slice_get (groups t) n ≡ Some g
    → IsTrue (is_sound_group g))
