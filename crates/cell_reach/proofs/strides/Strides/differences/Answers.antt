use Rattle.std.proofs.Common.{◌∙◌, ap, subst}
use Rattle.std.specs.Prelude.{◌↔◌, IsSome}
use Rattle.cell_grid.specs.Space.{place_of}
use Rattle.cell_reach.specs.Neighbourhoods.{Neighbourhood, StandsInside}
use Rattle.cell_reach.proofs.strides.Strides.differences.Goals as goal

pub returns-clause-far : goal.returns-clause-far
returns-clause-far c =
    c.differences_at.ensures.far c.args.cell (c.position.ensures.value ∙ ap (λ (n : Neighbourhood). place_of n.space c.args.cell) c.self.view_is)

pub returns-clause-some : goal.returns-clause-some
returns-clause-some c =
    subst (λ p. IsSome c.differences_at.result ↔ StandsInside c.args.self.now p)
    (c.position.ensures.value ∙ ap (λ (n : Neighbourhood). place_of n.space c.args.cell) c.self.view_is)
    c.differences_at.ensures.some
