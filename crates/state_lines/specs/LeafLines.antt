-- What is told of the line of a leaf beside its state: how many ports and variables a cell has, and
-- the numbers of a box.
use Rattle.std.specs.Prelude.{◌≡◌, ℕ, suc, Bool, ◌&&◌, ◌==◌, ◌^◌, Option, List, ◌∷◌, length, map}
use Rattle.std.specs.Prelude.{drop, codes, ℤ}
use Rattle.std.specs.Fmt.{signed_decimal}
use Rattle.std.specs.List.{list_all, join_with_byte}
use Rattle.quantity.specs.Bytes.{Bytes}
use Rattle.quantity.specs.ValueTexts.{signed_in}
use Rattle.quantity.specs.Written.{if_written}
use Rattle.model_tree.specs.Tree.{Leaf, atomic_leaf, cell_leaf}
use Rattle.run_model.specs.CellStep.{CellState}
use Rattle.text_forms.specs.LogLine.{leaf_name_text}
use Rattle.text_forms.specs.Lines.{leaf_name}
use Rattle.text_forms.specs.LeafStates.{is_port_state}
use Rattle.text_forms.specs.StateOf.{all_in, line_words}

-- ---- cells

-- a cell whose group has so many ports, with the port out, and so many variables
abbrev pub IsCellWith : ℕ → ℕ → Leaf → Type 0
IsCellWith ports variables (atomic_leaf name class settings) = ⊥
IsCellWith ports variables (cell_leaf g first cell) =
    (ports ≡ suc (length g.ports)) × (variables ≡ length g.variables)

-- its lists rise from behind a time, and it has so many ports and variables
abbrev pub has_numbers : ℕ → ℕ → ℕ → CellState → Bool
has_numbers t ports variables c =
    list_all (is_port_state t) c.ports && (length c.ports == ports)
    && (length c.variables == variables)

-- ---- boxes

-- the line of a box whose state has these numbers
abbrev pub box_line : Leaf → List ℤ → Bytes
box_line l numbers =
    join_with_byte 32 (codes "box" ∷ leaf_name_text (leaf_name l) ∷ map signed_decimal numbers)

-- the numbers of a box that a line is the line of
abbrev pub box_in : Leaf → Bytes → Option (List ℤ)
box_in l line =
    if_written (box_line l) line (all_in (signed_in (10 ^ 17)) (drop 2 (line_words line)))
