-- What is answered of a model and of its leaves: the same for every settings of its boxes.
use Rattle.std.specs.Prelude.{◌≡◌, ℕ, ◌<◌, ◌++◌, ⊤, Option, Some, None, List, [], ℤ, slice_get}
use Rattle.quantity.specs.Bytes.{Bytes}
use Rattle.cell_grid.specs.Space.{Space, cell_count}
use Rattle.model_tree.specs.declared.component.Coupled.{Coupled}
use Rattle.model_tree.specs.declared.component.Component.TheVariants.{Coupled as in_tree}
use Rattle.model_leaves.specs.declared.table.Model.{Model}
use Rattle.model_leaves.specs.declared.leaves.LeafAt.{LeafAt}
use Rattle.model_leaves.specs.declared.leaves.CellAt.{CellAt}
use Rattle.model_leaves.specs.declared.leaves.LeafAt.TheVariants as at
use Rattle.model_tree.specs.Tree.{Word, Tree, Group, Leaf, atomic_leaf, cell_leaf, leaves, leaf_count, groups}
use Rattle.model_tree.specs.Stands.{part_of}
use Rattle.model_leaves.specs.Models.{tree_of}

-- settings of the boxes, by their numbers
abbrev pub Settings : Type 0
Settings = ℕ → List ℤ

-- boxes without settings
abbrev pub no_settings : Settings
no_settings n = []

-- the model's tree is that of this component
abbrev pub IsModelOf : Model → Coupled → Type 0
IsModelOf m top = (settings : Settings) → tree_of m settings ≡ part_of (in_tree top) settings

-- this holds of the model's tree, whatever the settings
abbrev pub OfTree : Model → (Tree → Type 0) → Type 0
OfTree m P = (settings : Settings) → P (tree_of m settings)

-- there is such a leaf
abbrev pub IsLeafOf : Model → ℕ → Type 0
IsLeafOf m leaf = leaf < leaf_count (tree_of m no_settings)

-- this holds of the leaf of this number
abbrev pub AtLeaf : Model → ℕ → (Leaf → Type 0) → Type 0
AtLeaf m leaf P =
    (settings : Settings) → (l : Leaf) → slice_get (leaves (tree_of m settings)) leaf ≡ Some l → P l

-- this text of the leaf stands behind what was there
abbrev pub Appends : Model → ℕ → (Leaf → Bytes) → Bytes → Bytes → Type 0
Appends m leaf text old new = AtLeaf m leaf (λ l. new ≡ old ++ text l)

-- ---- where a leaf stands

-- an atomic component has the settings of its box
abbrev pub HasBox : List ℤ → Leaf → Type 0
HasBox words (atomic_leaf name class settings) = settings ≡ words
HasBox words (cell_leaf g first cell) = ⊥

-- the leaf is this cell of this group
abbrev pub IsCellIn : Option Group → ℕ → Leaf → Type 0
IsCellIn group cell (atomic_leaf name class settings) = ⊥
IsCellIn None cell (cell_leaf g first n) = ⊥
IsCellIn (Some h) cell (cell_leaf g first n) = (g ≡ h) × (n ≡ cell)

-- the leaf is where the answer says: in that box, or that cell of the group of that number
abbrev pub StandsAt : Tree → Settings → LeafAt → Leaf → Type 0
StandsAt t settings (at.Atomic box) l = HasBox (settings box.0) l
StandsAt t settings (at.Cell group cell) l = IsCellIn (slice_get (groups t) group) cell l

-- the leaf of this number stands there
abbrev pub IsPlaceOf : Model → ℕ → LeafAt → Type 0
IsPlaceOf m leaf a =
    (settings : Settings) → (l : Leaf) → slice_get (leaves (tree_of m settings)) leaf ≡ Some l
    → StandsAt (tree_of m settings) settings a l

-- the leaf is an atomic component
abbrev pub IsAtomic : Leaf → Type 0
IsAtomic (atomic_leaf name class settings) = ⊤
IsAtomic (cell_leaf g first n) = ⊥

-- the leaf is this cell of the group of this number, which has this name and this space
abbrev pub IsCellOfGroup : List Group → ℕ → Word → Space → ℕ → Leaf → Type 0
IsCellOfGroup gs number name space cell (atomic_leaf w class settings) = ⊥
IsCellOfGroup gs number name space cell (cell_leaf g first n) =
    record {
      group : slice_get gs number ≡ Some g;
      name : name ≡ g.name;
      space : space ≡ g.space;
      cell : cell ≡ n;
      inside : n < cell_count g.space;
    }

-- the leaf is that cell, or none
abbrev pub IsAtCell : List Group → Option CellAt → Leaf → Type 0
IsAtCell gs None l = IsAtomic l
IsAtCell gs (Some c) l = IsCellOfGroup gs c.group c.name.now c.space.now c.cell l

-- the leaf of this number is that cell
abbrev pub IsCellOf : Model → ℕ → Option CellAt → Type 0
IsCellOf m leaf c =
    (settings : Settings) → (l : Leaf) → slice_get (leaves (tree_of m settings)) leaf ≡ Some l
    → IsAtCell (groups (tree_of m settings)) c l
