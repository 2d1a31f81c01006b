-- Private: where steps lead equally far from each place, and the places from which none leads past
-- an edge.
use Rattle.std.specs.Prelude.{◌≡◌, ℕ, ◌+◌, ◌<◌, ◌≤◌, ◌↔◌, Some, List, map, ℤ}
use Rattle.std.specs.List.{All}
use Rattle.quantity.specs.declared.place.Place.{Place}
use Rattle.cell_grid.specs.declared.step.Step.{Step}
use Rattle.cell_grid.specs.Space.{Space, number_of, neighbour_at}
use Rattle.cell_grid.specs.Watched.{IsInside}
use Rattle.cell_grid.specs.Steps.{offset_of_step}
use Rattle.cell_reach.specs.declared.inner.Span.{Span}
use Rattle.cell_reach.specs.declared.inner.Inner.{Inner}
use Rattle.cell_reach.specs.Neighbourhoods.{Neighbourhood, StandsInside, further, LeadsInside}

-- how far on each step leads from a cell that stands at a place: to a cell, its neighbour there
pub record AreFixed (s : Space) (cell : ℕ) (p : Place) (steps : List Step)
    (ds : List ℤ) : Type 0 where
  pub inside : All (LeadsInside s cell) ds
  pub lead : map (λ (step : Step). neighbour_at s p (offset_of_step step)) steps
      ≡ map (λ d. Some (further cell d)) ds

-- the same of the cell at a place
abbrev pub AreFixedAt : Space → Place → List Step → List ℤ → Type 0
AreFixedAt s p = AreFixed s (number_of s p.row p.column p.plane) p

-- ---- numbers and places that no step leads out of the space

-- one of the numbers of a span
abbrev pub IsIn : Span → ℕ → Type 0
IsIn span n = (span.first ≤ n) × (n < span.first + span.count)

-- a place whose coordinates are in the spans
abbrev pub IsInner : Inner → Place → Type 0
IsInner inner p = IsIn inner.rows p.row × IsIn inner.columns p.column × IsIn inner.planes p.plane

-- a space, and the offsets that these steps are
abbrev pub neighbourhood_of_steps : Space → List Step → Neighbourhood
neighbourhood_of_steps s steps = record { space = s; offsets = map offset_of_step steps }

-- the places are exactly those from which none of the steps leads past an edge, and from there each
-- step leads so far on
pub record AreInner (s : Space) (inner : Inner) (steps : List Step) (ds : List ℤ) : Type 0 where
  pub fixed : (p : Place) → IsInner inner p → IsInside s p × AreFixedAt s p steps ds
  pub exact : (p : Place) → IsInner inner p ↔ StandsInside (neighbourhood_of_steps s steps) p
