-- Which states of a leaf may be saved at a time: its delay lists and its next time lie after it.
use Rattle.std.specs.Prelude.{ℕ, suc, Bool, true, false, ◌&&◌, ◌==◌, nat_lt, nat_le, Option, Some, None, List, ◌∷◌, length, []}
use Rattle.std.specs.List.{list_all}
use Rattle.quantity.specs.declared.bounds.TheConstants.{MAX_TIME}
use Rattle.quantity.specs.declared.value.Value.{Value}
use Rattle.atomic_face.specs.Classes.{next_of}
use Rattle.model_tree.specs.Tree.{Leaf, atomic_leaf, cell_leaf}
use Rattle.run_model.specs.CellStep.{PortState}
use Rattle.run_model.specs.Cycle.{LeafState, box_state, cell_state}
use Rattle.atomic_face.specs.BoxStates.{is_box_state}

-- times rise, after this one
abbrev pub rises : ℕ → List (ℕ × Value) → Bool
rises before [] = true
rises before (p ∷ ps) = nat_lt before p.0 && nat_le p.0 MAX_TIME && rises p.0 ps

-- its pairs are later than this time
abbrev pub is_port_state : ℕ → PortState → Bool
is_port_state t p = rises t p.pairs

-- a next time, if there is one, is later
abbrev pub is_later : ℕ → Option ℕ → Bool
is_later t None = true
is_later t (Some n) = nat_lt t n

-- a state of the leaf that waits for later times
abbrev pub is_leaf_state : ℕ → Leaf → LeafState → Bool
is_leaf_state t (atomic_leaf name class settings) (box_state b) =
    is_box_state class settings b.state && is_later t (next_of class b.state)
is_leaf_state t (cell_leaf g first cell) (cell_state c) =
    list_all (is_port_state t) c.ports && (length c.ports == suc (length g.ports))
    && (length c.variables == length g.variables)
is_leaf_state t l s = false
