-- How many paths a model has, which is limited.
use Rattle.std.specs.Prelude.{ℕ, ◌+◌, map, length}
use Rattle.std.specs.List.{sum}
use Rattle.model_tree.specs.Tree.{Tree}
use Rattle.model_tree.specs.Pull.{sources, top_sources}

-- link paths, from outputs of leaves and inputs of top to inputs of leaves and outputs of top
abbrev pub path_count : Tree → ℕ
path_count t =
    sum (map (λ ports. sum (map length ports)) (sources t)) + sum (map length (top_sources t))
