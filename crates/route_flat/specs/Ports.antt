-- The lists of routes by the ports of leaves.
use Rattle.std.specs.Prelude.{◌≡◌, ℕ, [], length, map, slice_index_or}
use Rattle.model_tree.specs.Tree.{Tree, leaves, outs_of}
use Rattle.model_leaves.specs.LeafTexts.{in_ports}
use Rattle.route_flat.specs.Nets.{Flat}

-- how many ports a leaf of these routes has
abbrev pub port_count : Flat → ℕ → ℕ
port_count r l = length (slice_index_or r.ports l [])

-- there is a list for each port of each leaf, and for each output of top
pub record CoversPorts (t : Tree) (r : Flat) : Type 0 where
  pub ports : map length r.ports ≡ map (λ l. length (in_ports l)) (leaves t)
  pub tops : length r.tops ≡ length (outs_of t)
