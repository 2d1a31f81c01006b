-- Private: what is put behind the processors so far.
use Rattle.std.specs.Prelude.{◌≡◌, ℕ, ℤ, ◌+◌, List, [], ◌∷◌, ◌++◌, map, length, Some, None}
use Rattle.std.specs.List.{enumerate_from}
use Rattle.model_tree.specs.declared.component.Component.{Component}
use Rattle.model_tree.specs.Tree.{Word, Tree, leaf_count}
use Rattle.model_tree.specs.Pull.{is_child, is_cell}
use Rattle.model_tree.specs.Stands.{part_of}
use Rattle.served_tree.specs.Processors.{Node, Processor, processors_from, node_name, node_ins, size}
use Rattle.served_tree.specs.Places.{ContainsFrom, node_of}
use Rattle.served_tree.specs.Rows.{Ref}
use Rattle.tree_tables.specs.declared.growing.Growing.{Growing}
use Rattle.tree_tables.specs.declared.incoming.Links.{Links}
use Rattle.tree_tables.specs.Stations.{Station, station_of, station_in}
use Rattle.tree_tables.specs.Incoming.{rows_to}
use Rattle.tree_tables.specs.Children.{processors_of}

-- a processor with children
abbrev pub inner_station : ℕ → List ℕ → List (List Ref) → List (List Ref) → Station
inner_station q numbers out_rows in_rows =
    record { parent = q; children = numbers; leaf = None; outs = out_rows; ins = in_rows }

-- a leaf of this number
abbrev pub leaf_station : ℕ → ℕ → List (List Ref) → Station
leaf_station q number in_rows =
    record { parent = q; children = []; leaf = Some number; outs = []; ins = in_rows }

-- these were put behind the others
abbrev pub PutsBehind : Growing → Growing → List Station → Type 0
PutsBehind old new ss = map station_in new.entries.items ≡ map station_in old.entries.items ++ ss

-- the first with these rows at its input ports
abbrev pub with_ins : List (List Ref) → List Station → List Station
with_ins rows [] = []
with_ins rows (s ∷ ss) = record s { ins = rows } ∷ ss

-- the processors of a component, with these rows at its input ports
abbrev pub part_stations : List Processor → Tree → ℕ → ℕ → ℕ → List (List Ref) → List Station
part_stations ps c n parent first rows =
    with_ins rows (map (station_of ps) (processors_from c n parent first))

-- ... are put behind the others, wherever all processors have them there
abbrev pub Takes : Component → ℕ → List (List Ref) → Growing → Growing → Type 0
Takes c parent rows old new =
    (settings : ℕ → List ℤ) (ps : List Processor)
    → ContainsFrom ps (length old.entries.items)
    (processors_from (part_of c settings) (length old.entries.items) parent old.leaves)
    → PutsBehind old new
    (part_stations ps (part_of c settings) (length old.entries.items) parent old.leaves rows)

-- the processors of some components, with these rows at the input ports of each
abbrev pub all_stations : List Processor → List Component → (ℕ → List ℤ) → ℕ → ℕ → ℕ
    → (Node → List (List Ref)) → List Station
all_stations ps [] settings n parent first rows = []
all_stations ps (c ∷ cs) settings n parent first rows =
    part_stations ps (part_of c settings) n parent first
    (rows (node_of (part_of c settings) first))
    ++ all_stations ps cs settings (n + size (part_of c settings)) parent
    (first + leaf_count (part_of c settings)) rows

-- the rows at the input ports of a child
abbrev pub child_rows : Links → Node → List (List Ref)
child_rows links node =
    rows_to links.inward.items links.arrivals (λ port. is_child port (node_name node))
    (node_ins node)

-- the processors of some children are put behind the others
abbrev pub TakeAll : List Component → ℕ → Links → Growing → Growing → Type 0
TakeAll cs parent links old new =
    (settings : ℕ → List ℤ) (ps : List Processor)
    → ContainsFrom ps (length old.entries.items)
    (processors_of cs settings (length old.entries.items) parent old.leaves)
    → PutsBehind old new
    (all_stations ps cs settings (length old.entries.items) parent old.leaves (child_rows links))

-- the leaves that cells are, whose ports have these names
abbrev pub cell_stations : Links → ℕ → ℕ → List (List Word) → List Station
cell_stations links parent first names =
    map (λ (p : ℕ × List Word). leaf_station parent (first + p.0)
    (rows_to links.inward.items links.arrivals (λ port. is_cell port p.0) p.1))
    (enumerate_from 0 names)
