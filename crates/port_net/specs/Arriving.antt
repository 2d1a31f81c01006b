-- The nodes of links, looked up by where the links lead: what `Arrivals` keeps and answers.
use Rattle.std.specs.Prelude.{◌≡◌, ℕ, List, [], ◌∷◌, ◌++◌, Bool, true, Option, Vec, if◌then◌else◌}
use Rattle.std.specs.List.{filter, flat_map}
use Rattle.std.specs.declared.alloc.Global.{Global}
use Rattle.model_tree.specs.declared.link.End.{End}
use Rattle.model_tree.specs.declared.link.End.TheVariants as owned
use Rattle.model_tree.specs.declared.link.Link.{Link}
use Rattle.model_tree.specs.Tree.{Word}
use Rattle.model_tree.specs.Pull as P
use Rattle.port_net.specs.declared.net.Node.{Node}
use Rattle.port_net.specs.declared.arrivals.Place.{Place}
use Rattle.port_net.specs.declared.arrivals.Place.TheVariants as lent
use Rattle.port_net.specs.declared.arrivals.Arrivals.{Arrivals}
use Rattle.port_net.specs.Shown.{Join, items_of_links, one_if}

-- the end whose names these are
abbrev pub end_of : Place → End
end_of (lent.Own port) = owned.Own port.items
end_of (lent.Child port child) = owned.Child port.items child.items
end_of (lent.Cell port cell) = owned.Cell port.items cell

-- the nodes at the first place whose end passes
abbrev pub kept_at : (End → Bool) → List (Place × Vec ℕ Global) → List ℕ
kept_at into [] = []
kept_at into (e ∷ es) = if into (end_of e.0) then e.1.items else kept_at into es

-- the nodes of the links that lead into an end
abbrev pub nodes_to : Arrivals → (End → Bool) → List ℕ
nodes_to a into = kept_at into a.by_place.entries

-- a test that just this end passes
pub record IsTestFor (into : End → Bool) (x : End) : Type 0 where
  pub passes : into x ≡ true
  pub only : (e : End) → into e ≡ true → e ≡ x

-- the nodes are those of the links, at each end in their order
abbrev pub Arrive : List Link → List ℕ → Arrivals → Type 0
Arrive links nodes a =
    (into : End → Bool) (x : End) → IsTestFor into x → nodes_to a into
    ≡ items_of_links into links nodes

-- a node more at an end, if there is one
abbrev pub Adds : Arrivals → Arrivals → End → Option ℕ → Type 0
Adds old new to node =
    (into : End → Bool) (x : End) → IsTestFor into x
    → nodes_to new into ≡ nodes_to old into ++ one_if (into to) node

-- the nodes at each end show what the links that lead there bring
abbrev pub Brings : List Word → List Node → Arrivals → (Link → List P.Source) → List Link → Type 0
Brings ins ns a from links =
    (into : End → Bool) (x : End) → IsTestFor into x
    → Join ins ns (nodes_to a into) (flat_map from (filter (λ (l : Link). into l.to) links))
