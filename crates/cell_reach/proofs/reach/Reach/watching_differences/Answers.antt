use Rattle.std.proofs.Common.{subst}
use Rattle.std.specs.Prelude.{◌↔◌, IfSome, IsSome}
use Rattle.cell_grid.specs.Space.{place_of}
use Rattle.cell_reach.specs.Neighbourhoods.{Neighbourhood, StandsInside, AreDifferences}
use Rattle.cell_reach.proofs.Fixed.{is_turned}
use Rattle.cell_reach.proofs.reach.Reach.watching_differences.Goals as goal

pub returns-clause-some : goal.returns-clause-some
returns-clause-some c =
    subst (λ (n : Neighbourhood). IsSome c.differences.result ↔ StandsInside n (place_of n.space c.args.cell))
    (is_turned c.self.inside.ahead c.args.self.now c.self.inside.back c.self.invariant.0 c.self.invariant.1 c.self.view_is) c.differences.ensures.some

pub returns-clause-far : goal.returns-clause-far
returns-clause-far c =
    subst (λ (n : Neighbourhood). IfSome c.differences.result (λ ds. AreDifferences n c.args.cell ds.now))
    (is_turned c.self.inside.ahead c.args.self.now c.self.inside.back c.self.invariant.0 c.self.invariant.1 c.self.view_is) c.differences.ensures.far
