-- Private: places of leaves, by what is the same for all leaves of a stretch.
use Rattle.std.specs.Prelude.{◌≡◌, ℕ, suc, ◌-◌, ◌<◌, ◌≤◌, ⊤, Option, Some, None, List, [], ◌∷◌, length, slice_get}
use Rattle.atomic_face.specs.declared.stock.BoxNo.{BoxNo}
use Rattle.model_leaves.specs.declared.leaves.LeafAt.{LeafAt}
use Rattle.model_leaves.specs.declared.leaves.LeafAt.TheVariants.{Atomic, Cell}
use Rattle.run_leaves.specs.declared.seats.Anchor.{Anchor}
use Rattle.run_leaves.specs.declared.seats.Anchor.TheVariants.{Boxes, Cells}

-- the place of a box that there is
abbrev pub box_place : Option BoxNo → LeafAt
box_place None = Cell 0 0
box_place (Some at) = Atomic at

-- the place of a leaf
abbrev pub place_of : List BoxNo → ℕ → Anchor → LeafAt
place_of boxes leaf (Boxes skipped) = box_place (slice_get boxes (leaf - skipped))
place_of boxes leaf (Cells group first) = Cell group (leaf - first)

-- the places of leaves from this one on
abbrev pub places_from : List BoxNo → ℕ → List Anchor → List LeafAt
places_from boxes leaf [] = []
places_from boxes leaf (a ∷ anchors) = place_of boxes leaf a ∷ places_from boxes (suc leaf) anchors

-- the leaf is not before those that it is counted from, and its box is there
abbrev pub IsThere : List BoxNo → ℕ → Anchor → Type 0
IsThere boxes leaf (Boxes skipped) = (skipped ≤ leaf) × (leaf - skipped < length boxes)
IsThere boxes leaf (Cells group first) = first ≤ leaf

-- so it is for all leaves, and no box is one too many
pub record AreThere (boxes : List BoxNo) (anchors : List Anchor) : Type 0 where
  pub few : length boxes ≤ length anchors
  pub each : (leaf : ℕ) (a : Anchor) → slice_get anchors leaf ≡ Some a → IsThere boxes leaf a

-- a cell is not the number of a leaf before its group
abbrev pub IsCellWithin : ℕ → LeafAt → Type 0
IsCellWithin leaf (Atomic at) = ⊤
IsCellWithin leaf (Cell group cell) = cell ≤ leaf
