-- Leaves and ports with names such as lines of a log have.
use Rattle.std.specs.Prelude.{◌≡◌, true, length}
use Rattle.std.specs.List.{list_all}
use Rattle.quantity.specs.Names.{is_name}
use Rattle.model_tree.specs.Tree.{Leaf, atomic_leaf, cell_leaf}
use Rattle.model_leaves.specs.LeafTexts.{in_ports, further_ports}
use Rattle.text_forms.specs.LogLine.{is_leaf}
use Rattle.text_forms.specs.Lines.{leaf_name}

-- a leaf's name and the names of its ports are such as lines of a log have
pub record IsNamed (l : Leaf) : Type 0 where
  pub leaf : is_leaf (leaf_name l) ≡ true
  pub further : list_all is_name (further_ports l) ≡ true
  pub ins : list_all is_name (in_ports l) ≡ true

-- each further port of a cell has a value at the start
abbrev pub HasPortValues : Leaf → Type 0
HasPortValues (atomic_leaf name class settings) = Unit {0}
HasPortValues (cell_leaf g first cell) = length g.port_values ≡ length g.ports
