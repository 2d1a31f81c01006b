use Rattle.std.proofs.Common.{◌≡◌, Some, None, length, sym, ap, ◌∙◌, arith, rules}
use Rattle.std.specs.Option.{option_map}
use Rattle.std.proofs.lemmas.List.{take_at}
use Rattle.cell_grid.specs.Initial.{row_digits, with_row}
use Rattle.cell_grid.proofs.initial.Initial.row_digits.Goals as goal

pub returns-in_err-lay_row_digits-clause-value : goal.returns-in_err-lay_row_digits-clause-value
returns-in_err-lay_row_digits-clause-value c =
    let none : row_digits c.args.grid.now c.args.text.now ≡ None = c.in_err-lay_row_digits.ensures.1 in
    search rules

pub returns-clause-value : goal.returns-clause-value
returns-clause-value c =
    ap Some (take_at c.lay_row_digits.new.values _ c.self.inside.0.len (omega (arith, c.lay_row_digits.auto.values, c.deref_mut.ensures.len)))
    ∙ sym c.in_ok-lay_row_digits.ensures ∙ ap (λ values. option_map (with_row c.args.grid.now values) (row_digits c.args.grid.now c.args.text.now)) (c.deref_mut.ensures.value ∙ c.self.view_is)

pub returns-clause-length : goal.returns-clause-length
returns-clause-length c =
    let many : length c.deref_mut.result.now ≡ length c.args.self = ap length (c.deref_mut.ensures.value ∙ c.self.view_is) in
    ap length (take_at c.lay_row_digits.new.values _ c.self.inside.0.len (omega (arith, c.lay_row_digits.auto.values, c.deref_mut.ensures.len))) ∙ omega (arith, c.lay_row_digits.auto.values, many, c.requires)
