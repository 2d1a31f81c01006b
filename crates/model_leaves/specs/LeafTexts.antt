-- How leaves and their ports are called.
use Rattle.std.specs.Prelude.{ℕ, List, ◌∷◌, ◌++◌, map, []}
use Rattle.std.specs.Prelude.{slice_get, codes, decimal, unwrap_or}
use Rattle.std.specs.List.{join_with_byte}
use Rattle.quantity.specs.Bytes.{Bytes}
use Rattle.model_tree.specs.Tree.{Word, Leaf, atomic_leaf, cell_leaf}
use Rattle.model_tree.specs.Pull.{class_ports, cell_ports}

-- coordinates in parentheses, with commas between; nothing where there are none
abbrev pub at_text : List ℕ → Bytes
at_text [] = []
at_text (n ∷ ns) = 40 ∷ (join_with_byte 44 (map decimal (n ∷ ns)) ++ codes ")")

-- the name of this number, or no bytes where there is none
abbrev pub name_at : List Word → ℕ → Word
name_at names k = unwrap_or (slice_get names k) []

-- the names of a leaf's input ports, by number
abbrev pub in_ports : Leaf → List Word
in_ports (atomic_leaf name class settings) = class_ports class
in_ports (cell_leaf g first cell) = cell_ports g cell

-- the names of the output ports that a leaf has besides `out`
abbrev pub further_ports : Leaf → List Word
further_ports (atomic_leaf name class settings) = []
further_ports (cell_leaf g first cell) = g.ports

-- the names of a leaf's output ports, by number
abbrev pub out_ports : Leaf → List Word
out_ports l = codes "out" ∷ further_ports l
