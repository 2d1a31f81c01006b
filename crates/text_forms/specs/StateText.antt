-- The text of a state: a line for its time, and one for each leaf in declared order.
use Rattle.std.specs.Prelude.{ℕ, List, [], ◌∷◌, ◌++◌, length, map, codes, decimal}
use Rattle.std.specs.Fmt.{signed_decimal}
use Rattle.std.specs.List.{flat_map, join_with_byte, zip}
use Rattle.quantity.specs.declared.value.Value.{Value}
use Rattle.model_tree.specs.Tree.{Tree, Leaf, leaves}
use Rattle.run_model.specs.CellStep.{PortState}
use Rattle.run_model.specs.Cycle.{LeafState, box_state, cell_state}
use Rattle.quantity.specs.Bytes.{Bytes}
use Rattle.quantity.specs.ValueTexts.{text5}
use Rattle.quantity.specs.Times.{time_text}
use Rattle.text_forms.specs.LogLine.{leaf_name_text}
use Rattle.text_forms.specs.Lines.{leaf_name, line_with_end}

-- a time in milliseconds, and a value
abbrev pub pair_words : ℕ × Value → List Bytes
pair_words p = decimal p.0 ∷ text5 p.1 ∷ []

-- the emitted and the computed value, the number of pairs, and each pair
abbrev pub port_words : PortState → List Bytes
port_words p =
    text5 p.emitted ∷ text5 p.computed ∷ decimal (length p.pairs) ∷ flat_map pair_words p.pairs

-- a cell's ports and variables, or the words of a box's state
abbrev pub leaf_words : Leaf → LeafState → List Bytes
leaf_words l (cell_state c) =
    codes "cell" ∷ leaf_name_text (leaf_name l) ∷ flat_map port_words c.ports
    ++ map text5 c.variables
leaf_words l (box_state b) = codes "box" ∷ leaf_name_text (leaf_name l) ∷ map signed_decimal b.state

-- the line of a leaf
abbrev pub leaf_line : Leaf → LeafState → Bytes
leaf_line l s = join_with_byte 32 (leaf_words l s)

-- the line of the time
abbrev pub at_line : ℕ → Bytes
at_line t = codes "at " ++ time_text t

-- the lines of all leaves
abbrev pub leaf_lines : List Leaf → List LeafState → List Bytes
leaf_lines ls states =
    map (λ (p : Leaf × LeafState). leaf_line p.0 p.1) (zip ls states) ++ codes "end" ∷ []

-- all lines of a state at this time
abbrev pub state_lines : ℕ → List Leaf → List LeafState → List Bytes
state_lines t ls states = codes "state 1" ∷ at_line t ∷ leaf_lines ls states

-- the text of a saved state
abbrev pub text_of_state : Tree → ℕ → List LeafState → Bytes
text_of_state tree t states = flat_map line_with_end (state_lines t (leaves tree) states)
