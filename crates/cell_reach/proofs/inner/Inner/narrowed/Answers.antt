use Rattle.std.proofs.Common.{◌<◌, rules, arith, FitsSigned, w16}
use Rattle.std.proofs.lemmas.Int.{ints}
use Rattle.cell_reach.proofs.inner.Inner.narrowed.Goals as goal

pub returns-clause-within : goal.returns-clause-within
returns-clause-within c = λ p inner. (
  c.narrowed.ensures.within p.row inner.0,
  c.narrowed-2.ensures.within p.column inner.1,
  c.narrowed-3.ensures.within p.plane inner.2,
)

pub returns-clause-stay : goal.returns-clause-stay
returns-clause-stay c = λ p inner.
    let row : FitsSigned w16 c.args.step.rows = search rules in
    let column : FitsSigned w16 c.args.step.columns = search rules in
    let plane : FitsSigned w16 c.args.step.planes = search rules in
    let rows = c.narrowed.ensures.stay p.row inner.0 in
    let columns = c.narrowed-2.ensures.stay p.column inner.1 in
    let planes = c.narrowed-3.ensures.stay p.plane inner.2 in (
      (omega (arith, ints), omega (arith, ints)),
      (omega (arith, ints), omega (arith, ints)),
      (omega (arith, ints), omega (arith, ints)),
    )

pub returns-clause-all : goal.returns-clause-all
returns-clause-all c = λ p inner inside stays.
    let row : FitsSigned w16 c.args.step.rows = search rules in
    let column : FitsSigned w16 c.args.step.columns = search rules in
    let plane : FitsSigned w16 c.args.step.planes = search rules in
    let rows = stays.0 in
    let columns = stays.1 in
    let planes = stays.2 in
    let at : (p.row < c.rows.result) × (p.column < c.columns.result) × (p.plane < c.planes.result) = (omega (arith, inside.0), omega (arith, inside.1), omega (arith, inside.2)) in (
      c.narrowed.ensures.all p.row inner.0 (at.0) (omega (arith, ints), omega (arith, ints)),
      c.narrowed-2.ensures.all p.column inner.1 (at.1) (omega (arith, ints), omega (arith, ints)),
      c.narrowed-3.ensures.all p.plane inner.2 (at.2) (omega (arith, ints), omega (arith, ints)),
    )
