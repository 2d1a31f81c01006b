-- What stands at ports, and what is inside a component.
use Rattle.std.specs.Prelude.{◌≡◌, ℕ, ◌+◌, ◌<◌, List, [], ◌∷◌, ℤ, map, length, Bool, ⊤, if◌then◌else◌}
use Rattle.std.specs.List.{sum_by}
use Rattle.std.specs.Str.{bytes_eq}
use Rattle.model_tree.specs.declared.component.Component.{Component}
use Rattle.model_tree.specs.declared.component.Component.TheVariants.{Coupled', Cells, Atomic}
use Rattle.model_tree.specs.declared.component.Coupled.{Coupled}
use Rattle.model_tree.specs.declared.link.End.{End}
use Rattle.model_tree.specs.declared.link.End.TheVariants as end
use Rattle.model_tree.specs.declared.link.Link.{Link}
use Rattle.model_tree.specs.Tree.{Word, name_of, leaf_count}
use Rattle.model_tree.specs.Pull as P
use Rattle.model_leaves.specs.LeafTexts.{name_at}
use Rattle.model_tree.specs.Stands.{part_of}
use Rattle.port_net.specs.declared.net.Node.{Node}
use Rattle.port_net.specs.declared.ports.Outputs.{Outputs}
use Rattle.port_net.specs.declared.ports.At.{At}
use Rattle.port_net.specs.declared.ports.At.TheVariants as at
use Rattle.port_net.specs.declared.ports.Ports.{Ports}
use Rattle.port_net.specs.declared.ports.Ports.TheVariants as ports
use Rattle.port_net.specs.declared.ports.Inside.{Inside}
use Rattle.port_net.specs.declared.ports.Inside.TheVariants as inside
use Rattle.port_net.specs.Shown.{Gives, Join, leaf_list}
use Rattle.port_net.specs.Arriving.{nodes_to}

-- ---- at ports

-- an end is a port of this name
abbrev pub is_end_at : At → Word → End → Bool
is_end_at at.Own port = P.is_own port
is_end_at (at.Child child) port = P.is_child port child.now
is_end_at (at.Cell cell) port = P.is_cell port cell

-- that end
abbrev pub end_at : At → Word → End
end_at at.Own port = end.Own port
end_at (at.Child child) port = end.Child port child.now
end_at (at.Cell cell) port = end.Cell port cell

-- the first nodes are the inputs of top, by their names
pub record InputsAre (ins : List Word) (ns : List Node) (names : List Word)
    (lists : Word → List P.Source) : Type 0 where
  pub same : names ≡ ins
  pub give : (k : ℕ) → k < length ins → Gives ins ns k (P.top_source (name_at ins k) ∷ [])
  pub are : (port : Word) → lists port ≡ P.top_source port ∷ []

-- these lists stand at the ports
abbrev pub PortsAre : List Word → List Node → Ports → (Word → List P.Source) → Type 0
PortsAre ins ns ports.Nothing lists = (port : Word) → lists port ≡ []
PortsAre ins ns (ports.Inputs names) lists = InputsAre ins ns names.now lists
PortsAre ins ns (ports.Linked links a) lists =
    (port : Word) → Join ins ns (nodes_to links.now (is_end_at a port)) (lists port)

-- ---- what children give

-- what comes out of the child of a name at a port, where the first child's first leaf has this
-- number
abbrev pub given_in : List Component → (ℕ → List ℤ) → ℕ → Word → Word → List P.Source
given_in [] settings first port child = []
given_in (c ∷ cs) settings first port child =
    if bytes_eq (name_of (part_of c settings)) child
    then P.given_out (part_of c settings) first leaf_list port
    else given_in cs settings (first + leaf_count (part_of c settings)) port child

-- the nodes of a component's links show what the links bring out
abbrev pub GivesOut : List Node → Component → Outputs → Type 0
GivesOut ns (Coupled' name is os shape children links) out =
    (ins : List Word) (settings : ℕ → List ℤ) (port : Word)
    → Join ins ns (nodes_to out.links (P.is_own port))
    (P.given_out
    (part_of (Coupled' name is os shape children links) settings) out.first leaf_list port)
GivesOut ns (Cells g) out =
    (ins : List Word) (settings : ℕ → List ℤ) (port : Word)
    → Join ins ns (nodes_to out.links (P.is_own port))
    (P.given_out (part_of (Cells g) settings) out.first leaf_list port)
GivesOut ns (Atomic a) out = ⊤

-- the outputs of a component whose first leaf has this number
pub record AreOutputs (ns : List Node) (c : Component) (number : ℕ) (out : Outputs) : Type 0 where
  pub first : out.first ≡ number
  pub leaves : (settings : ℕ → List ℤ) → out.leaves ≡ leaf_count (part_of c settings)
  pub gives : GivesOut ns c out

-- those of some components, one after another
abbrev pub AllOutputs : List Node → List Component → ℕ → List Outputs → Type 0
AllOutputs ns [] first [] = ⊤
AllOutputs ns [] first (o ∷ os) = ⊥
AllOutputs ns (c ∷ cs) first [] = ⊥
AllOutputs ns (c ∷ cs) first (o ∷ os) =
    AreOutputs ns c first o × AllOutputs ns cs (first + o.leaves) os

-- how many leaves they have
abbrev pub leaves_of : List Outputs → ℕ
leaves_of os = sum_by (λ (o : Outputs). o.leaves) os

-- ---- inside a component

-- what comes out of the children
abbrev pub child_lists : Inside → (ℕ → List ℤ) → ℕ → Word → Word → List P.Source
child_lists (inside.Children cs os) settings first = given_in cs.now.list.now settings first
child_lists (inside.Cells leaf) settings first = λ port child. []

-- what comes out of the cells
abbrev pub cell_lists : Inside → ℕ → List P.Source
cell_lists (inside.Children cs os) = P.nothing
cell_lists (inside.Cells leaf) = λ n. leaf_list (leaf + n)

-- the children's outputs are known
abbrev pub InsideIs : List Node → Inside → ℕ → Type 0
InsideIs ns (inside.Children cs os) first = AllOutputs ns cs.now.list.now first os.now
InsideIs ns (inside.Cells leaf) first = ⊤

-- what stands at an end of a link
abbrev pub stands_at : Inside → (ℕ → List ℤ) → ℕ → (Word → List P.Source) → End → List P.Source
stands_at i settings first own e = P.at_source e own (child_lists i settings first) (cell_lists i)

-- what stands where a link of a coupled component begins
abbrev pub coupled_at : Coupled → (ℕ → List ℤ) → ℕ → (Word → List P.Source) → Link → List P.Source
coupled_at c settings first own l =
    P.at_source l.from own (given_in c.children.items settings first) P.nothing

-- what stands where each of these links begins
abbrev pub brought_by : Inside → (ℕ → List ℤ) → ℕ → (Word → List P.Source) → List Link
    → List (List P.Source)
brought_by i settings first own links =
    map (λ (l : Link). stands_at i settings first own l.from) links

-- ---- whatever stands there

-- a fact of all that may stand outside and inside a component
abbrev pub EachAround : List Node → Ports → Inside
    → (List Word → (Word → List P.Source) → ℕ → (ℕ → List ℤ) → Type 0) → Type 0
EachAround ns own i fact =
    (ins : List Word) (lists : Word → List P.Source) (first : ℕ) (settings : ℕ → List ℤ)
    → PortsAre ins ns own lists → InsideIs ns i first → fact ins lists first settings

-- the same of a coupled component, whose children give these
abbrev pub EachCoupled : List Node → Ports → Coupled → List Outputs
    → (List Word → (Word → List P.Source) → ℕ → (ℕ → List ℤ) → Type 0) → Type 0
EachCoupled ns own c outs fact =
    (ins : List Word) (lists : Word → List P.Source) (first : ℕ) (settings : ℕ → List ℤ)
    → PortsAre ins ns own lists → AllOutputs ns c.children.items first outs
    → fact ins lists first settings

-- a fact of all that may stand inside a component
abbrev pub EachInside : List Node → Inside
    → (List Word → ℕ → (ℕ → List ℤ) → Type 0) → Type 0
EachInside ns i fact =
    (ins : List Word) (first : ℕ) (settings : ℕ → List ℤ)
    → InsideIs ns i first → fact ins first settings

-- the same among children that give these
abbrev pub EachOutputs : List Node → List Component → List Outputs
    → (List Word → ℕ → (ℕ → List ℤ) → Type 0) → Type 0
EachOutputs ns cs outs fact =
    (ins : List Word) (first : ℕ) (settings : ℕ → List ℤ)
    → AllOutputs ns cs first outs → fact ins first settings

-- ---- one component

-- what comes out of a component at a port
abbrev pub comes_out : Component → (ℕ → List ℤ) → Outputs → Word → List P.Source
comes_out c settings out port = P.given_out (part_of c settings) out.first leaf_list port
