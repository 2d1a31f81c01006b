-- What stands at a node.
use Rattle.std.specs.Prelude.{ℕ, ◌==◌, List, [], ◌∷◌, take, drop, length, reverse, if◌then◌else◌}
use Rattle.std.specs.List.{flat_map}
use Rattle.model_leaves.specs.declared.path.Source.{Source}
use Rattle.port_net.specs.declared.net.Node.{Node}
use Rattle.port_net.specs.declared.net.Node.TheVariants.{Given, Joins}
use Rattle.port_net.specs.declared.span.Span.{Span}

-- one source, or what stands at the nodes that are joined, one after another
abbrev pub at_node : (ℕ → List Source) → Node → List Source
at_node older (Given s) = s ∷ []
at_node older (Joins ks) = flat_map older ks.items

-- the newest node first: a node has as number how many are older, and joins older ones only
abbrev pub stands : List Node → ℕ → List Source
stands [] k = []
stands (n ∷ older) k = if k == length older then at_node (stands older) n else stands older k

-- the sources at the node of a number
abbrev pub sources_at : List Node → ℕ → List Source
sources_at ns k = stands (reverse ns) k

-- the items of a list that belong to a span
abbrev pub part_in_span : {A : Type 0} → List A → Span → List A
part_in_span xs s = take s.count (drop s.first xs)
