-- The names of ports, link by link: one more name, for one cell and for all cells of a group.
use Rattle.std.specs.Prelude.{ℕ, Option, Some, None, List, [], ◌∷◌, ◌++◌, map, slice_set, slice_index_or, if◌then◌else◌}
use Rattle.std.specs.List.{range_with_len}
use Rattle.quantity.specs.Bytes.{is_among}
use Rattle.cell_grid.specs.Space.{cell_count}
use Rattle.model_tree.specs.declared.link.End.{End}
use Rattle.model_tree.specs.declared.link.End.TheVariants.{Own, Child, Cell}
use Rattle.model_tree.specs.Tree.{Word, Group}
use Rattle.model_tree.specs.Pull.{cell_ports}

-- the names of the ports of each cell of a group
abbrev pub ports_of_cells : Group → List (List Word)
ports_of_cells g = map (cell_ports g) (range_with_len 0 (cell_count g.space))

-- a name behind the others, unless it is there
abbrev pub with_name : List Word → Word → List Word
with_name names name = if is_among names name then names else names ++ name ∷ []

-- the same where there may be no name
abbrev pub with_port : List Word → Option Word → List Word
with_port names None = names
with_port names (Some name) = with_name names name

-- the port at an end, behind those of its cell
abbrev pub with_end : End → List (List Word) → List (List Word)
with_end (Own port) all = all
with_end (Child port child) all = all
with_end (Cell port cell) all = slice_set all cell (with_name (slice_index_or all cell []) port)

-- so many lists of no names
abbrev pub none_each : ℕ → List (List Word)
none_each n = map (λ k. []) (range_with_len 0 n)
