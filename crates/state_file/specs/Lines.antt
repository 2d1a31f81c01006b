-- The lines of leaves, one behind the other, and those of a run.
use Rattle.std.specs.Prelude.{◌≡◌, ℕ, Some, List, ◌++◌, codes, slice_get}
use Rattle.std.specs.List.{flat_map, zip}
use Rattle.quantity.specs.Bytes.{Bytes}
use Rattle.model_tree.specs.Tree.{Leaf, leaves}
use Rattle.run_model.specs.Cycle.{LeafState}
use Rattle.text_forms.specs.Lines.{line_with_end}
use Rattle.text_forms.specs.StateText.{at_line, leaf_line}
use Rattle.sparse_cycle.specs.Sparse.{leaf_of}
use Rattle.run_leaves.specs.Standing.{Standing, tree_in}

-- the lines in front of those of leaves: that of the form, and that of the time
abbrev pub head_of : ℕ → Bytes
head_of t = line_with_end (codes "state 1") ++ line_with_end (at_line t)

-- the line of a leaf in its state, with its end
abbrev pub line_ended : Leaf × LeafState → Bytes
line_ended p = line_with_end (leaf_line p.0 p.1)

-- the lines of leaves
abbrev pub lines_of : List Leaf → List LeafState → Bytes
lines_of ls states = flat_map line_ended (zip ls states)

-- ---- a run

-- the lines of its leaves
abbrev pub lines_of_run : Standing → Bytes
lines_of_run run = lines_of (leaves (tree_in run)) run.state.leaf_states

-- the line of one of its leaves stands behind what was there, without its end
abbrev pub AddsLine : Standing → ℕ → Bytes → Bytes → Type 0
AddsLine run leaf old new =
    (l : Leaf) → slice_get (leaves (tree_in run)) leaf ≡ Some l
    → new ≡ old ++ leaf_line l (leaf_of run.state.leaf_states leaf)

-- and with its end
abbrev pub AddsEndedLine : Standing → ℕ → Bytes → Bytes → Type 0
AddsEndedLine run leaf old new =
    (l : Leaf) (s : LeafState) → slice_get (leaves (tree_in run)) leaf ≡ Some l
    → slice_get run.state.leaf_states leaf ≡ Some s → new ≡ old ++ line_ended (l, s)
