-- Private: the rows of ports, by the numbers of links.
use Rattle.std.specs.Prelude.{◌≡◌, ℕ, ℤ, Bool, Option, Some, None, List, [], ◌∷◌, map, slice_get}
use Rattle.std.specs.List.{filter_map}
use Rattle.std.specs.Option.{option_map}
use Rattle.model_tree.specs.declared.component.Component.{Component}
use Rattle.model_tree.specs.declared.component.Coupled.{Coupled}
use Rattle.model_tree.specs.declared.link.End.{End}
use Rattle.model_tree.specs.declared.link.Link.{Link}
use Rattle.model_tree.specs.Tree.{Word}
use Rattle.model_tree.specs.Causes.{OfComponent}
use Rattle.model_tree.specs.Pull.{is_own, is_child}
use Rattle.port_net.specs.declared.arrivals.Arrivals.{Arrivals}
use Rattle.port_net.specs.Arriving.{nodes_to, IsTestFor}
use Rattle.served_tree.specs.Processors.{node_name, node_ins}
use Rattle.served_tree.specs.Places.{node_of}
use Rattle.served_tree.specs.Rows.{Ref, refs_into}
use Rattle.tree_tables.specs.declared.entry.Ref as code
use Rattle.tree_tables.specs.declared.incoming.Links.{Links}
use Rattle.tree_tables.specs.Begins.{coupled_begin}
use Rattle.tree_tables.specs.Stations.{ref_of}

-- where a link begins, if there is such a link and it begins anywhere
abbrev pub begin_seen : Option (Option code.Ref) → Option Ref
begin_seen None = None
begin_seen (Some b) = option_map ref_of b

-- one beginning, or none
abbrev pub one_of : Option Ref → List Ref
one_of None = []
one_of (Some r) = r ∷ []

-- where links of these numbers begin
abbrev pub begins_at : List (Option code.Ref) → List ℕ → List Ref
begins_at begins numbers = filter_map (λ k. begin_seen (slice_get begins k)) numbers

-- the rows of ports, where the test says which links lead to each
abbrev pub rows_to : List (Option code.Ref) → Arrivals → (Word → End → Bool) → List Word
    → List (List Ref)
rows_to begins arrivals into ports =
    map (λ port. begins_at begins (nodes_to arrivals (into port))) ports

-- the rows are those of these links, which begin here and there
pub record AreLinks (ls : Links) (out inside : End → Option Ref) (links : List Link) : Type 0 where
  pub outward : (port : Word)
      → begins_at ls.outward.items (nodes_to ls.arrivals (is_own port))
      ≡ refs_into out links (is_own port)
  pub inward : (into : End → Bool) (x : End) → IsTestFor into x
      → begins_at ls.inward.items (nodes_to ls.arrivals into) ≡ refs_into inside links into

-- those of a coupled component, whose children have these numbers
abbrev pub AreCoupledLinks : Coupled → List ℕ → Links → Type 0
AreCoupledLinks c numbers ls =
    (settings : ℕ → List ℤ)
    → AreLinks ls (coupled_begin c.children.items settings numbers [])
    (coupled_begin c.children.items settings numbers c.ins.items) c.links.items

-- the rows of the input ports of a child
abbrev pub AreRowsOf : Links → Component → List (List Ref) → Type 0
AreRowsOf ls child rows =
    OfComponent child (λ t. (first : ℕ)
    → rows ≡ rows_to ls.inward.items ls.arrivals
    (λ port. is_child port (node_name (node_of t first))) (node_ins (node_of t first)))
