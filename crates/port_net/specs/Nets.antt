-- The net of a model: what stands at its nodes is what reaches the ports.
use Rattle.std.specs.Prelude.{◌≡◌, ◌+◌, ◌≤◌, List, length, map}
use Rattle.std.specs.List.{All, AllByRecursion, flat_map}
use Rattle.model_leaves.specs.declared.path.Source.{Source}
use Rattle.model_tree.specs.Tree.{Tree, ins_of}
use Rattle.model_tree.specs.Pull as P
use Rattle.model_leaves.specs.Numbered.{source_by_name, IsThere}
use Rattle.port_net.specs.declared.net.Net.{Net}
use Rattle.port_net.specs.declared.span.Span.{Span}
use Rattle.port_net.specs.Nodes.{sources_at, part_in_span}

-- the sources at each port of each leaf, and at each output of top
pub record Flat : Type 0 where
  pub ports : List (List (List Source))
  pub tops : List (List Source)

-- they are those of the tree, and inputs of top have their numbers
pub record RoutesOf (t : Tree) (r : Flat) : Type 0 where
  pub ports : map (map (map (source_by_name (ins_of t)))) r.ports ≡ P.sources t
  pub tops : map (map (source_by_name (ins_of t))) r.tops ≡ P.top_sources t
  pub inputs : All (All (All (IsThere (ins_of t)))) r.ports
  pub top_inputs : All (All (IsThere (ins_of t))) r.tops

-- the sources that a net has
abbrev pub flat_of_net : Net → Flat
flat_of_net n =
    record {
      ports =
          map (λ leaf. map (sources_at n.nodes.items)
          (part_in_span n.ports.items leaf)) n.leaves.items;
      tops = map (sources_at n.nodes.items) n.outputs.items;
    }

-- each span lies in the list
abbrev pub AreWithin : {A : Type 0} → List A → List Span → Type 0
AreWithin xs spans = AllByRecursion (λ (s : Span). s.first + s.count ≤ length xs) spans

-- the leaves' ports, one after another, are all ports
pub record IsParted (n : Net) : Type 0 where
  pub within : AreWithin n.ports.items n.leaves.items
  pub whole : flat_map (part_in_span n.ports.items) n.leaves.items ≡ n.ports.items

-- a net of these nodes is the model's
pub record IsNetOf (t : Tree) (n : Net) : Type 0 where
  pub parted : IsParted n
  pub routes : RoutesOf t (flat_of_net n)
