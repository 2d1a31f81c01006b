-- Private: lists of sources that stand one behind another.
use Rattle.std.specs.Prelude.{◌≡◌, ℕ, ◌+◌, Option, Some, None, List, ◌++◌, map, length, nat_le, if◌then◌else◌}
use Rattle.std.specs.List.{flat_map}
use Rattle.model_leaves.specs.declared.path.Source.{Source}
use Rattle.port_net.specs.declared.net.Node.{Node}
use Rattle.port_net.specs.declared.span.Span.{Span}
use Rattle.port_net.specs.Nodes.{sources_at, part_in_span}

-- the items of a span, where it lies in the list
abbrev pub span_at : List Source → Span → Option (List Source)
span_at xs s = if nat_le (s.first + s.count) (length xs) then Some (part_in_span xs s) else None

-- a node's list stands behind the others, and this is its span
pub record IsList (ns : List Node) (node : ℕ) (old new : List Source) (span : Span) : Type 0 where
  pub grown : new ≡ old ++ sources_at ns node
  pub first : span.first ≡ length old
  pub count : span.count ≡ length (sources_at ns node)

-- the lists of these nodes stand behind the others, and these are their spans, whatever stands
-- behind them later
pub record AreLists (ns : List Node) (ports : List ℕ) (old new : List Source)
    (spans : List Span) : Type 0 where
  pub grown : new ≡ old ++ flat_map (sources_at ns) ports
  pub shown : (more : List Source) → map (span_at (new ++ more)) spans
      ≡ map (λ k. Some (sources_at ns k)) ports
