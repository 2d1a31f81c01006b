-- Leaves at their start wait for 0, where they are cells.
use Rattle.std.proofs.Common.{◌≡◌, ◌∙◌, ℕ, zero, suc, Option, Some, None, List, [], ◌∷◌, map, refl, ap, subst, arith}
use Rattle.std.specs.Prelude.{SomeIff, min}
use Rattle.std.specs.List.{All}
use Rattle.quantity.specs.TimeBounds.{IsTime}
use Rattle.quantity.specs.Times.{earlier}
use Rattle.model_tree.specs.Tree.{Leaf, atomic_leaf, cell_leaf}
use Rattle.run_model.specs.CellStep.{CellState, initial_port, next_of_ports}
use Rattle.run_model.specs.Cycle.{LeafState, cell_state, initial_leaf, leaf_next}
use Rattle.run_leaves.specs.Waiting.{WaitsAtStart}

-- 0 is a time
pub time-0 : (o : Option ℕ) → SomeIff o (IsTime 0) 0 → o ≡ Some 0
time-0 None none = absurd (none (omega arith))
time-0 (Some t) is = ap Some is.1

-- a leaf that is a cell
pub cell-waits : (s : LeafState) (c : CellState) → s ≡ cell_state c → WaitsAtStart s → leaf_next s ≡ Some 0
cell-waits s c is waits = ap leaf_next is ∙ subst WaitsAtStart is waits

least-0 : (o : Option ℕ) → earlier (Some 0) o ≡ Some 0
least-0 None = refl
least-0 (Some t) =
    let none : min 0 t ≡ 0 = omega arith in
    ap Some none

initial-waits : (l : Leaf) → WaitsAtStart (initial_leaf l)
initial-waits (atomic_leaf name class settings) = tt
initial-waits (cell_leaf g first cell) = least-0 (next_of_ports (map initial_port g.port_values))

-- all leaves at their start
pub initial-wait : (ls : List Leaf) → All WaitsAtStart (map initial_leaf ls)
initial-wait [] k d lt = absurd (omega (arith, lt))
initial-wait (l ∷ ls) zero d lt = initial-waits l
initial-wait (l ∷ ls) (suc k) d lt = initial-wait ls k d (omega (arith, lt))
