-- The states that a leaf comes to in a run.
use Rattle.std.specs.Prelude.{◌≡◌, ℕ, ◌^◌, Bool, ◌&&◌, nat_le, IsTrue, ℤ, unsigned_abs}
use Rattle.std.specs.List.{list_all}
use Rattle.quantity.specs.declared.value.Value.{Value}
use Rattle.model_tree.specs.Tree.{Tree, Leaf, atomic_leaf, cell_leaf, leaves}
use Rattle.run_model.specs.CellStep.{PortState}
use Rattle.run_model.specs.Cycle.{LeafState, box_state, cell_state}
use Rattle.text_forms.specs.LogLine.{is_leaf, is_value}
use Rattle.text_forms.specs.Lines.{leaf_name}
use Rattle.text_forms.specs.LeafStates.{is_leaf_state}

-- each value of a port has a text
abbrev pub has_values_in_range : PortState → Bool
has_values_in_range p =
    is_value p.emitted && is_value p.computed && list_all (λ (q : ℕ × Value). is_value q.1) p.pairs

-- a number of a box, at most 10^17 in size
abbrev pub is_box_number : ℤ → Bool
is_box_number w = nat_le (unsigned_abs w) (10 ^ 17)

-- a state of this leaf, of its class and settings
abbrev pub IsStateOf : ℕ → Leaf → LeafState → Type 0
IsStateOf t (atomic_leaf name class settings) (box_state b) =
    (b.kind ≡ class) × (b.settings ≡ settings)
    × IsTrue (is_leaf_state t (atomic_leaf name class settings) (box_state b))
    × IsTrue (list_all is_box_number b.state)
IsStateOf t (cell_leaf g first cell) (cell_state c) =
    IsTrue (is_leaf_state t (cell_leaf g first cell) (cell_state c))
    × IsTrue (list_all has_values_in_range c.ports) × IsTrue (list_all is_value c.variables)
IsStateOf t l s = ⊥

-- the leaves have names that may be written
abbrev pub has_names : Tree → Bool
has_names tree = list_all (λ l. is_leaf (leaf_name l)) (leaves tree)
