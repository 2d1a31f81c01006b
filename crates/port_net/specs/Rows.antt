-- Private: the rows of leaves, one after another.
use Rattle.std.specs.Prelude.{◌≡◌, ℕ, ◌+◌, List, [], ◌∷◌, ◌++◌, ℤ, map}
use Rattle.std.specs.List.{enumerate_from, flat_map}
use Rattle.model_tree.specs.declared.component.Component.{Component}
use Rattle.model_tree.specs.Tree.{Word, name_of, leaf_count}
use Rattle.model_tree.specs.Pull as P
use Rattle.model_tree.specs.Stands.{part_of}
use Rattle.port_net.specs.declared.net.Node.{Node}
use Rattle.port_net.specs.declared.growing.Growing.{Growing}
use Rattle.port_net.specs.Nodes.{part_in_span}
use Rattle.port_net.specs.Nets.{AreWithin}
use Rattle.port_net.specs.declared.ports.Outputs.{Outputs}
use Rattle.port_net.specs.declared.ports.Ports.{Ports}
use Rattle.port_net.specs.declared.arrivals.Arrivals.{Arrivals}
use Rattle.port_net.specs.Shown.{Join, plain_sources, leaf_list}
use Rattle.port_net.specs.Arriving.{nodes_to}
use Rattle.port_net.specs.Outside.{PortsAre, AllOutputs}

-- these lists stand at the ports of the leaves so far
pub record Shows (ins : List Word) (g : Growing)
    (lists : List (List (List P.Source))) : Type 0 where
  pub within : AreWithin g.ports.items g.leaves.items
  pub whole : flat_map (part_in_span g.ports.items) g.leaves.items ≡ g.ports.items
  pub shown : (more : List Node)
      → map
      (λ leaf. map (plain_sources ins (g.nodes.items ++ more)) (part_in_span g.ports.items leaf))
      g.leaves.items ≡ lists

-- leaves with these lists were put behind those that were there
abbrev pub Grows : List Word → Growing → Growing → List (List (List P.Source)) → Type 0
Grows ins old new lists =
    (before : List (List (List P.Source))) → Shows ins old before → Shows ins new (before ++ lists)

-- what reaches the leaves of some components, where these lists stand at the inputs of each
abbrev pub taken_by : List Component → (ℕ → List ℤ) → ℕ → (Word → Word → List P.Source)
    → List (List (List P.Source))
taken_by [] settings first own = []
taken_by (c ∷ cs) settings first own =
    P.taken_in (part_of c settings) first leaf_list (own (name_of (part_of c settings)))
    ++ taken_by cs settings (first + leaf_count (part_of c settings)) own

-- ---- what is put behind

-- the leaves of a component, where these lists stand at its inputs
abbrev pub Takes : Component → ℕ → Ports → Growing → Growing → Type 0
Takes c first own old new =
    (ins : List Word) (settings : ℕ → List ℤ) (lists : Word → List P.Source)
    → PortsAre ins old.nodes.items own lists
    → Grows ins old new (P.taken_in (part_of c settings) first leaf_list lists)

-- those of some components, where links bring these lists to the inputs of each
abbrev pub TakeAll : List Component → List Outputs → Arrivals → Growing → Growing → Type 0
TakeAll cs outs links old new =
    (ins : List Word) (settings : ℕ → List ℤ) (first : ℕ) (own : Word → Word → List P.Source)
    → AllOutputs old.nodes.items cs first outs
    → ((child port : Word)
    → Join ins old.nodes.items (nodes_to links (P.is_child port child)) (own child port))
    → Grows ins old new (taken_by cs settings first own)

-- those of cells whose ports have these names, where links bring these lists to the ports of each
abbrev pub cell_rows : (ℕ → Word → List P.Source) → List (List Word) → List (List (List P.Source))
cell_rows lists names = map (λ (p : ℕ × List Word). map (lists p.0) p.1) (enumerate_from 0 names)

abbrev pub TakeCells : List (List Word) → Arrivals → Growing → Growing → Type 0
TakeCells names links old new =
    (ins : List Word) (lists : ℕ → Word → List P.Source)
    → ((cell : ℕ) (port : Word)
    → Join ins old.nodes.items (nodes_to links (P.is_cell port cell)) (lists cell port))
    → Grows ins old new (cell_rows lists names)
