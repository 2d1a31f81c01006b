-- The routes that a net has, and how many paths there are.
use Rattle.std.specs.Prelude.{ℕ, ◌+◌, List, length, map}
use Rattle.std.specs.List.{sum}
use Rattle.model_leaves.specs.declared.path.Source.{Source}
use Rattle.port_net.specs.declared.span.Span.{Span}
use Rattle.port_net.specs.Nodes.{part_in_span}
pub use Rattle.port_net.specs.Nets.{Flat, RoutesOf, flat_of_net, AreWithin, IsParted, IsNetOf}

-- how many paths there are
abbrev pub paths_in : Flat → ℕ
paths_in r = sum (map (λ ports. sum (map length ports)) r.ports) + sum (map length r.tops)

-- the same lists, as spans of ports and of paths
abbrev pub flat_of_spans : List Span → List Span → List Span → List Source → Flat
flat_of_spans leaves ports outputs paths =
    record {
      ports = map (λ leaf. map (part_in_span paths) (part_in_span ports leaf)) leaves;
      tops = map (part_in_span paths) outputs;
    }
