use Rattle.std.proofs.Common.{◌≡◌, true, refl, ◌∙◌, sym, ap, subst}
use Rattle.cell_grid.specs.Space.{place_of}
use Rattle.cell_reach.specs.Neighbourhoods.{Neighbourhood, StandsInside}
use Rattle.cell_reach.proofs.Fixed.{differences_here}
use Rattle.cell_reach.proofs.strides.Strides.differences_at.Goals as goal

pub returns-then-has-clause-far : goal.returns-then-has-clause-far
returns-then-has-clause-far c = λ cell here.
    differences_here c.self.inside.grid cell c.args.place c.self.inside.steps.items c.self.inside.steps.items c.args.self.now
    (here ∙ ap (λ (n : Neighbourhood). place_of n.space cell) (sym c.self.view_is)) refl c.self.view_is
    c.self.inside.differences.items c.as_slice.result.now c.as_slice.ensures.value (c.self.invariant.fixed c.args.place (c.has.ensures.0 c.if-has.true)).1

pub returns-then-has-clause-some : goal.returns-then-has-clause-some
returns-then-has-clause-some c = (
  λ some. subst (λ (n : Neighbourhood). StandsInside n c.args.place) c.self.view_is ((c.self.invariant.exact c.args.place).0 (c.has.ensures.0 c.if-has.true)),
  λ stands. refl,
)

pub returns-clause-some : goal.returns-clause-some
returns-clause-some c =
    let P = λ (n : Neighbourhood). StandsInside n c.args.place in (
      λ some. absurd (cc some),
      λ stands.
          let has : c.has.result ≡ true = c.has.ensures.1 ((c.self.invariant.exact c.args.place).1 (subst P (sym c.self.view_is) stands)) in
          absurd (cc (has, c.if-has.false)),
    )
