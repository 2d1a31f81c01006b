-- The leaves of a run as the program keeps them: a place for each leaf, which says where its state
-- lies.
use Rattle.std.specs.Prelude.{◌≡◌, ℕ, ◌+◌, ◌<◌, ◌≤◌, Bool, true, false, Option, Some, None, List, [], map, length, slice_get, slice_index_or, IsTrue, ℤ}
use Rattle.std.specs.List.{All}
use Rattle.cell_grid.specs.Space.{cell_count}
use Rattle.atomic_face.specs.declared.class.Class.{Class}
use Rattle.atomic_face.specs.declared.stock.BoxNo.{BoxNo}
use Rattle.atomic_face.specs.StockView.{Stocked}
use Rattle.model_leaves.specs.declared.table.Model.{Model}
use Rattle.model_leaves.specs.declared.leaves.LeafAt.{LeafAt}
use Rattle.model_leaves.specs.declared.leaves.LeafAt.TheVariants.{Atomic, Cell}
use Rattle.model_tree.specs.Tree.{Word, Tree, Group, Leaf, atomic_leaf, cell_leaf, leaves, leaf_count}
use Rattle.model_tree.specs.Sound.{is_sound_group}
use Rattle.model_leaves.specs.LeafTexts.{in_ports}
use Rattle.model_leaves.specs.Models.{tree_of}
use Rattle.run_model.specs.CellStep.{CellState}
use Rattle.run_model.specs.Cycle.{LeafState, box_state, cell_state}
use Rattle.cell_engine.specs.Cells.{Cells}
use Rattle.cell_table.specs.Told.{cell_at}
use Rattle.cell_engine.specs.Layout.{Layout, StandsFor}
use Rattle.sparse_cycle.specs.Sparse.{no_leaf}

-- ---- the model with its settings

-- the settings of each box
abbrev pub settings_in : List Stocked → List (List ℤ)
settings_in stock = map (λ (s : Stocked). s.box.settings) stock

-- the settings of the box of this number
abbrev pub settings_at : List (List ℤ) → ℕ → List ℤ
settings_at settings n = slice_index_or settings n []

-- the plain tree of a model whose boxes have these settings
abbrev pub tree_at : Model → List (List ℤ) → Tree
tree_at m settings = tree_of m (settings_at settings)

-- ---- where states lie

-- the leaves: the model, where each leaf's state lies, what is kept of each group, and all states
-- in declared order
pub record Seated : Type 0 where
  pub model : Model
  pub seats : List LeafAt
  pub layouts : List Layout
  pub settings : List (List ℤ)
  pub states : List LeafState

-- the state of a box that there is
abbrev pub box_there : Option Stocked → LeafState
box_there None = no_leaf
box_there (Some s) = box_state s.box

-- the state of a cell of a store that there is
abbrev pub cell_there : Option Cells → ℕ → LeafState
cell_there None cell = no_leaf
cell_there (Some s) cell = cell_state (cell_at s.cells cell)

-- the state of a leaf that sits there
abbrev pub state_there : List Stocked → List Cells → LeafAt → LeafState
state_there stock stores (Atomic at) = box_there (slice_get stock at.0)
state_there stock stores (Cell group cell) = cell_there (slice_get stores group) cell

-- the states of all leaves
abbrev pub states_in : List Stocked → List Cells → List LeafAt → List LeafState
states_in stock stores seats = map (state_there stock stores) seats

-- what each store keeps of its group
abbrev pub layouts_in : List Cells → List Layout
layouts_in stores = map (λ (s : Cells). s.layout) stores

-- how many cells each store has
abbrev pub sizes_in : List Cells → List ℕ
sizes_in stores = map (λ (s : Cells). length s.cells) stores

-- ---- what is told of a leaf

-- a box, and no cell
abbrev pub is_box : LeafState → Bool
is_box (box_state b) = true
is_box (cell_state c) = false

-- how many input ports a leaf has that is there
abbrev pub input_count : Option Leaf → ℕ
input_count None = 0
input_count (Some l) = length (in_ports l)

-- how many input ports the leaf of a number has
abbrev pub ports_at : Seated → ℕ → ℕ
ports_at s l = input_count (slice_get (leaves (tree_at s.model s.settings)) l)

-- the most visits that a move of a cell takes: its own, one for each offset, and one to tell of it
abbrev pub visits_in : Option Layout → ℕ
visits_in None = 0
visits_in (Some l) = length l.offsets + 2

-- a move of a box takes none
abbrev pub visits_there : List Layout → Option LeafAt → ℕ
visits_there layouts None = 0
visits_there layouts (Some (Atomic at)) = 0
visits_there layouts (Some (Cell group cell)) = visits_in (slice_get layouts group)

-- the visits that a step of a leaf costs
abbrev pub visits_at : Seated → ℕ → ℕ
visits_at s l = visits_there s.layouts (slice_get s.seats l)

-- they are the leaves of this tree
abbrev pub IsOf : Tree → Seated → Type 0
IsOf tree s = tree ≡ tree_at s.model s.settings

-- ---- what holds of places

-- an atomic component whose box is there
pub record IsBoxPlace (tree : Tree) (settings : List (List ℤ)) (l : ℕ) (at : BoxNo) : Type 0 where
  pub name : Word
  pub class : Class
  pub words : List ℤ
  pub leaf : slice_get (leaves tree) l ≡ Some (atomic_leaf name class words)
  pub inside : at.0 < length settings

-- a cell of a group that the store of this number stands for; the cells of the group stand one
-- after another
pub record IsCellPlace (tree : Tree) (seats : List LeafAt) (layouts : List Layout) (sizes : List ℕ)
    (l store cell : ℕ) : Type 0 where
  pub group : Group
  pub first : ℕ
  pub layout : Layout
  pub leaf : slice_get (leaves tree) l ≡ Some (cell_leaf group first cell)
  pub sound : IsTrue (is_sound_group group)
  pub kept : slice_get layouts store ≡ Some layout
  pub stands : StandsFor group layout
  pub size : slice_get sizes store ≡ Some (cell_count group.space)
  pub inside : cell < cell_count group.space
  pub number : first + cell ≡ l
  pub others : (k : ℕ) → k < cell_count group.space
      → slice_get seats (first + k) ≡ Some (Cell store k)

-- each leaf has a place of its own
pub record Places (tree : Tree) (seats : List LeafAt) (settings : List (List ℤ))
    (layouts : List Layout) (sizes : List ℕ) : Type 0 where
  pub long : length seats ≡ leaf_count tree
  pub boxes : (l : ℕ) (at : BoxNo) → slice_get seats l ≡ Some (Atomic at)
      → IsBoxPlace tree settings l at
  pub cells : (l store cell : ℕ) → slice_get seats l ≡ Some (Cell store cell)
      → IsCellPlace tree seats layouts sizes l store cell
  pub apart : (k l : ℕ) (at : LeafAt) → slice_get seats k ≡ Some at → slice_get seats l ≡ Some at
      → k ≡ l

-- a cell has at least its port out
abbrev pub HasPort : CellState → Type 0
HasPort c = 1 ≤ length c.ports

-- each cell has a port
abbrev pub HavePorts : List Cells → Type 0
HavePorts stores = All (λ (s : Cells). All HasPort s.cells) stores
