-- Private: what is put of the state that the lines of a text tell.
use Rattle.std.specs.Prelude.{◌≡◌, ℕ, Bool, true, false, ◌&&◌, Option, Some, None, List, ℤ, length}
use Rattle.std.specs.Prelude.{IsTrue}
use Rattle.std.specs.declared.result.Result.{Result}
use Rattle.std.specs.declared.result.Result.TheVariants.{Ok, Err}
use Rattle.quantity.specs.Bytes.{Bytes}
use Rattle.atomic_face.specs.BoxStates.{is_box_state}
use Rattle.atomic_face.specs.Classes.{next_of}
use Rattle.atomic_face.specs.Held.{Held}
use Rattle.atomic_face.specs.Moves.{with_state}
use Rattle.model_leaves.specs.Leaves.{IsLeafOf}
use Rattle.model_tree.specs.Sound.{is_sound_model}
use Rattle.model_tree.specs.Tree.{Leaf, atomic_leaf, cell_leaf}
use Rattle.run_model.specs.Cycle.{LeafState, box_state}
use Rattle.run_model.specs.Fitting.{Fits, OfLeaf}
use Rattle.text_forms.specs.declared.refusal.StateRefusal.{StateRefusal}
use Rattle.text_forms.specs.declared.refusal.StateRefusal.TheVariants.{BadStateLine}
use Rattle.text_forms.specs.LeafStates.{is_later}
use Rattle.text_forms.specs.StateOf.{read_leaf}
use Rattle.sparse_cycle.specs.Sparse.{leaf_of}
use Rattle.run_leaves.specs.Standing.{Standing, tree_in}
use Rattle.flat_run.specs.Changes.{with_leaf_state}
use Rattle.state_lines.specs.declared.sizes.CellSize.{CellSize}
use Rattle.state_lines.specs.Parts.{line_in}
use Rattle.state_lines.specs.Sizes.{AreSizesOf, size_of}

-- ---- one leaf

-- a cell of this size, whose group has a value for each further port and each variable
abbrev pub IsCellOf : CellSize → Leaf → Type 0
IsCellOf size (atomic_leaf name class settings) = ⊥
IsCellOf size (cell_leaf g first cell) =
    (size ≡ size_of g) × (length g.port_values ≡ length g.ports)
    × (length g.variable_values ≡ length g.variables)

-- before the first cycle, the leaf of this number is there with a state that fits it, and these are
-- the sizes of the groups
pub record CanTake (s : Standing) (sizes : List CellSize) (leaf : ℕ) : Type 0 where
  pub fresh : (s.state.last ≡ None) × (s.stopped ≡ None)
  pub sound : IsTrue (is_sound_model (tree_in s))
  pub there : IsLeafOf s.model leaf
  pub fits : OfLeaf (tree_in s) leaf (λ l. Fits l (leaf_of s.state.leaf_states leaf))
  pub sizes_are : AreSizesOf s.model sizes

-- the numbers are a state of a box that waits for times after this one, or they aren't
abbrev pub is_box_after : ℕ → Held → List ℤ → Bool
is_box_after t b numbers =
    is_box_state b.kind b.settings numbers && is_later t (next_of b.kind numbers)

-- where they are, the box at this leaf has that state then
abbrev pub IsBoxPut : ℕ → ℕ → Held → List ℤ → Standing → Standing → Bool → Type 0
IsBoxPut t leaf b numbers s s' true =
    (is_box_after t b numbers ≡ true)
    × (s' ≡ with_leaf_state s leaf (box_state (with_state b numbers)))
IsBoxPut t leaf b numbers s s' false = is_box_after t b numbers ≡ false

-- a line is read as a state, which the leaf of this number has then, or it isn't read
abbrev pub IsTaken : ℕ → Bytes → ℕ → Standing → Standing → Bool → Leaf → Type 0
IsTaken t line leaf s s' true l =
    (x : LeafState) × (read_leaf t l line ≡ Some x) × (s' ≡ with_leaf_state s leaf x)
IsTaken t line leaf s s' false l = read_leaf t l line ≡ None

-- the same of the line in front of these parts, and the parts behind it
abbrev pub IsNext : ℕ → ℕ → List Bytes → Standing → Standing → Option (List Bytes) → Leaf → Type 0
IsNext t leaf parts s s' (Some left) l =
    (x : LeafState) × (line_in (read_leaf t l) parts ≡ Some (x, left))
    × (s' ≡ with_leaf_state s leaf x)
IsNext t leaf parts s s' None l = line_in (read_leaf t l) parts ≡ None

-- ---- all leaves

-- all have other states
abbrev pub with_states : Standing → List LeafState → Standing
with_states s states =
    record {
      model = s.model;
      settings = s.settings;
      state = record s.state { leaf_states = states };
      end = s.end;
      limit = s.limit;
      stopped = s.stopped;
    }

-- the leaves have the states that are read
abbrev pub HasThese : Standing → Standing → Result (List LeafState) StateRefusal → Type 0
HasThese s s' (Ok states) = s' ≡ with_states s states
HasThese s s' (Err why) = ⊥

-- no line is refused, and the leaves have those states; or the line of this number is the first
abbrev pub AreTaken : Standing → Standing → Result (List LeafState) StateRefusal → Option ℕ
    → Type 0
AreTaken s s' read None = HasThese s s' read
AreTaken s s' read (Some line) = read ≡ Err (BadStateLine line)
