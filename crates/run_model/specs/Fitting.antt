-- The states of a run fit the leaves of its model, and its records name leaves and ports that there
-- are.
use Rattle.std.specs.Prelude.{◌≡◌, ℕ, suc, ◌<◌, ◌≤◌, Bool, Option, List, length, slice_get, IfOk, IsSome, IsNone, IsSomeAnd}
use Rattle.std.specs.List.{All, AllZip}
use Rattle.quantity.specs.declared.value.Value.{Value}
use Rattle.rule_tree.specs.Meaning.{Sight}
use Rattle.atomic_face.specs.Classes.{Bag}
use Rattle.model_tree.specs.Tree.{Group, Tree, Leaf, atomic_leaf, cell_leaf, leaves, outs_of}
use Rattle.model_tree.specs.Pull.{class_ports, cell_ports}
use Rattle.run_model.specs.CellStep.{CellState, cell_emitted, cell_moved}
use Rattle.run_model.specs.Cycle.{LeafState, box_state, cell_state}
use Rattle.run_model.specs.Run.{Event, PortRecord, StateRecord, OutRecord, Cycle, RunState, Verdict, start, cycled, next_cycle}
use Rattle.run_model.specs.Runs.{Runs}

-- a cell with so many ports and variables
abbrev pub HasNumbers : ℕ → ℕ → CellState → Type 0
HasNumbers ports variables c = (length c.ports ≡ ports) × (length c.variables ≡ variables)

-- a box of the leaf's class and settings, or a cell with the group's ports and variables
abbrev pub Fits : Leaf → LeafState → Type 0
Fits (atomic_leaf name class settings) (box_state b) = (b.kind ≡ class) × (b.settings ≡ settings)
Fits (atomic_leaf name class settings) (cell_state c) = ⊥
Fits (cell_leaf g first cell) (box_state b) = ⊥
Fits (cell_leaf g first cell) (cell_state c) =
    HasNumbers (suc (length g.port_values)) (length g.variable_values) c

-- each state fits its leaf
abbrev pub FitsTree : Tree → List LeafState → Type 0
FitsTree tree states = AllZip Fits (leaves tree) states

-- a number of one of the further ports of a cell
abbrev pub IsFurtherPort : Leaf → ℕ → Type 0
IsFurtherPort (atomic_leaf name class settings) port = ⊥
IsFurtherPort (cell_leaf g first cell) port = (0 < port) × (port ≤ length g.port_values)

-- a number of an input port
abbrev pub IsInPort : Leaf → ℕ → Type 0
IsInPort (atomic_leaf name class settings) port = port < length (class_ports class)
IsInPort (cell_leaf g first cell) port = port < length (cell_ports g cell)

-- a cell has a computed value, and a box has none
abbrev pub IsStateValue : Leaf → Option Value → Type 0
IsStateValue (atomic_leaf name class settings) value = IsNone value
IsStateValue (cell_leaf g first cell) value = IsSome value

-- the leaf of this number is there, and this holds of it
abbrev pub OfLeaf : Tree → ℕ → (Leaf → Type 0) → Type 0
OfLeaf tree leaf holds = IsSomeAnd (slice_get (leaves tree) leaf) holds

-- each record of a cycle names a leaf and a port that there are
pub record NamesItsParts (tree : Tree) (c : Cycle) : Type 0 where
  pub y : All (λ (r : PortRecord). OfLeaf tree r.leaf (λ l. r.port ≡ 0)) c.y
  pub n : All (λ (r : PortRecord). OfLeaf tree r.leaf (λ l. IsFurtherPort l r.port)) c.n
  pub x : All (λ (r : PortRecord). OfLeaf tree r.leaf (λ l. IsInPort l r.port)) c.x
  pub s : All (λ (r : StateRecord). OfLeaf tree r.leaf (λ l. IsStateValue l r.value)) c.s
  pub out : All (λ (r : OutRecord). r.port < length (outs_of tree)) c.out

-- at the start
abbrev pub StartFits : Type 0
StartFits = (tree : Tree) (events : List Event) → FitsTree tree (start tree events).leaf_states

-- a cell keeps its ports and variables where it gives output, and where it moves
pub record CellsKeepNumbers : Type 0 where
  pub emission : (ports variables t : ℕ) (c : CellState) → HasNumbers ports variables c
      → HasNumbers ports variables (cell_emitted t c)
  pub move : (ports variables : ℕ) (g : Group) (cell t : ℕ) (woken : Bool) (sight : Sight)
      (bag : Bag) (c : CellState) → HasNumbers ports variables c
      → IfOk (cell_moved g cell t woken sight bag c) (HasNumbers ports variables)

-- one cycle
abbrev pub CycleFits : Type 0
CycleFits =
    (tree : Tree) (end limit : ℕ) (s n : RunState) (c : Cycle) → FitsTree tree s.leaf_states
    → next_cycle tree end limit s ≡ cycled c n
    → NamesItsParts tree c × FitsTree tree n.leaf_states

-- over a whole run
abbrev pub RunsFit : Type 0
RunsFit =
    (tree : Tree) (end limit : ℕ) (s l : RunState) (cs : List Cycle) (v : Verdict)
    → FitsTree tree s.leaf_states → Runs tree end limit s cs v l
    → All (NamesItsParts tree) cs × FitsTree tree l.leaf_states
