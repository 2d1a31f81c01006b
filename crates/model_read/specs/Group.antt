-- Private: the group that is drawn, looked for among the leaves.
use Rattle.std.specs.Prelude.{◌≡◌, ℕ, true, false, Option, Some, None, List, ⊤, slice_get}
use Rattle.std.specs.Str.{bytes_eq}
use Rattle.model_leaves.specs.declared.table.Model.{Model}
use Rattle.model_tree.specs.Tree.{Word, Group, Tree, Leaf, atomic_leaf, cell_leaf, leaves, groups}
use Rattle.model_leaves.specs.Models.{tree_of}
use Rattle.model_leaves.specs.Leaves.{Settings}
use Rattle.asked_words.specs.declared.group.GroupAt.{GroupAt}
use Rattle.model_read.specs.declared.group.Looked.{Looked}
use Rattle.model_read.specs.declared.group.Looked.TheVariants.{Here, Other}

-- the leaf is a cell of a group of this name, which has this number
abbrev pub IsCellOf : Word → GroupAt → List Group → Leaf → Type 0
IsCellOf name p gs (atomic_leaf n class settings) = ⊥
IsCellOf name p gs (cell_leaf g first cell) =
    (bytes_eq g.name name ≡ true) × (p.first ≡ first) × (slice_get gs p.number ≡ Some g)

-- the leaf is no cell of a group of this name
abbrev pub IsNoCellOf : Word → Leaf → Type 0
IsNoCellOf name (atomic_leaf n class settings) = ⊤
IsNoCellOf name (cell_leaf g first cell) = bytes_eq g.name name ≡ false

-- what was found of a leaf
abbrev pub Finds : Word → Looked → List Group → Leaf → Type 0
Finds name (Here p) gs l = IsCellOf name p gs l
Finds name (Other passed) gs l = IsNoCellOf name l

-- the same of the leaf of this number
abbrev pub Looks : Word → Looked → Tree → ℕ → Type 0
Looks name looked t leaf = (l : Leaf) → slice_get (leaves t) leaf ≡ Some l → Finds name looked (groups t) l

-- the group of this number, where one was passed, has another name
abbrev pub IsPassed : Model → Word → Option ℕ → Type 0
IsPassed m name None = ⊤
IsPassed m name (Some number) =
    (settings : Settings) (g : Group) → slice_get (groups (tree_of m settings)) number ≡ Some g
    → bytes_eq g.name name ≡ false

-- the group has not been met among the leaves so far
abbrev pub StillPassed : Model → Word → Looked → Type 0
StillPassed m name (Here p) = ⊤
StillPassed m name (Other passed) = IsPassed m name passed
