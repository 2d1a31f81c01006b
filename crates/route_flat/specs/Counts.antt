-- Private: numbers of sources, kept at one more than `MAX_PATHS` once they are past it.
use Rattle.std.specs.Prelude.{◌≡◌, ℕ, ◌+◌, min, List, get_or, map, length}
use Rattle.std.specs.List.{sum_by, range_with_len}
use Rattle.quantity.specs.declared.bounds.TheConstants.{MAX_PATHS}
use Rattle.port_net.specs.declared.net.Node.{Node}
use Rattle.port_net.specs.declared.net.Node.TheVariants.{Given, Joins}
use Rattle.port_net.specs.Nodes.{sources_at}

-- the sum of these nodes' counts, kept
abbrev pub sum_of : List ℕ → List ℕ → ℕ
sum_of nodes counts = min (sum_by (λ k. get_or counts k 0) nodes) (MAX_PATHS + 1)

-- a node's count, from those before it
abbrev pub count_of : Node → List ℕ → ℕ
count_of (Given s) before = 1
count_of (Joins ks) before = sum_of ks.items before

-- how many sources stand at a node, kept
abbrev pub kept_count : List Node → ℕ → ℕ
kept_count ns k = min (length (sources_at ns k)) (MAX_PATHS + 1)

-- the number of paths below each node
abbrev pub AreCounts : List Node → List ℕ → Type 0
AreCounts ns counts = counts ≡ map (kept_count ns) (range_with_len 0 (length ns))
