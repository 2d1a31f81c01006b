use Rattle.std.proofs.Common.{◌≡◌, ℕ, Option, Some, pos, ◌+ℤ◌, sym, ap, ◌∙◌, arith}
use Rattle.std.proofs.lemmas.Int.{ints}
use Rattle.cell_grid.specs.Space.{if_below}
use Rattle.cell_grid.proofs.Borders.{of_border-if_below}
use Rattle.cell_grid.proofs.grid.moved.Goals as goal

pub returns-in-Some-clause-value : goal.returns-in-Some-clause-value
returns-in-Some-clause-value c =
    let below : ◌≡◌ {A = Option ℕ} (Some c.in-Some.inside) (if_below c.args.size (pos c.args.at +ℤ c.args.step)) =
    sym c.in-Some.is ∙ c.below.ensures.value ∙ ap (if_below c.args.size) (omega (arith, ints)) in
    sym (of_border-if_below c.args.border c.args.size c.in-Some.inside (pos c.args.at +ℤ c.args.step) (sym below))
