-- The boxes of a model at its start: each atomic leaf has one of its own, taken, in the state that
-- its settings give.
use Rattle.std.specs.Prelude.{◌≡◌, ℕ, true, Option, Some, None, List, [], slice_get, unwrap_or}
use Rattle.std.specs.Option.{option_map}
use Rattle.atomic_face.specs.BoxCalls.{box_at_start}
use Rattle.atomic_face.specs.StockView.{Stocked}
use Rattle.atomic_face.specs.declared.stock.BoxNo.{BoxNo}
use Rattle.model_leaves.specs.declared.leaves.LeafAt.TheVariants as at
use Rattle.model_leaves.specs.declared.table.Model.{Model}
use Rattle.model_tree.specs.Tree.{Leaf, atomic_leaf, cell_leaf, leaves}
use Rattle.model_leaves.specs.Leaves.{Settings, IsLeafOf, IsPlaceOf}
use Rattle.model_leaves.specs.Models.{tree_of}

-- the settings of the boxes of a stock
abbrev pub settings_of_stock : List Stocked → Settings
settings_of_stock stock n =
    unwrap_or (option_map (λ (s : Stocked). s.box.settings) (slice_get stock n)) []

-- the box of an atomic leaf is taken, and stands at the start that the leaf's settings give
abbrev pub StartedAs : Option Stocked → Leaf → Type 0
StartedAs None l = ⊥
StartedAs (Some s) (atomic_leaf name class settings) =
    s ≡ record { box = box_at_start class settings; taken = true }
StartedAs (Some s) (cell_leaf g first cell) = ⊥

-- each atomic leaf has such a box, one of its own
pub record BoxesStand (stock : List Stocked) (m : Model) : Type 0 where
  pub started : (leaf : ℕ) (box : BoxNo) (l : Leaf) → IsLeafOf m leaf
      → IsPlaceOf m leaf (at.Atomic box)
      → slice_get (leaves (tree_of m (settings_of_stock stock))) leaf ≡ Some l
      → StartedAs (slice_get stock box.0) l
  pub apart : (j k : ℕ) (box : BoxNo) → IsLeafOf m j → IsLeafOf m k → IsPlaceOf m j (at.Atomic box)
      → IsPlaceOf m k (at.Atomic box) → j ≡ k
