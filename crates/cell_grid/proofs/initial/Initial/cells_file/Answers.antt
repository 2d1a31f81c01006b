use Rattle.std.proofs.Common.{◌≡◌, Some, None, length, sym, ap, ◌∙◌, arith, rules}
use Rattle.std.specs.List.{fold}
use Rattle.std.specs.Option.{option_map}
use Rattle.std.proofs.lemmas.List.{take_at}
use Rattle.cell_grid.specs.Initial.{cells_file, with_cell}
use Rattle.cell_grid.proofs.initial.Initial.cells_file.Goals as goal

pub returns-in_err-lay_cells-clause-value : goal.returns-in_err-lay_cells-clause-value
returns-in_err-lay_cells-clause-value c =
    let none : cells_file c.args.grid.now c.args.file.now ≡ None = c.in_err-lay_cells.ensures.1 in
    search rules

pub returns-clause-value : goal.returns-clause-value
returns-clause-value c =
    ap Some (take_at c.lay_cells.new.values _ c.self.inside.0.len (omega (arith, c.lay_cells.auto.values, c.deref_mut.ensures.len)))
    ∙ sym c.in_ok-lay_cells.ensures ∙ ap (λ values. option_map (fold with_cell values) (cells_file c.args.grid.now c.args.file.now)) (c.deref_mut.ensures.value ∙ c.self.view_is)

pub returns-clause-length : goal.returns-clause-length
returns-clause-length c =
    let many : length c.deref_mut.result.now ≡ length c.args.self = ap length (c.deref_mut.ensures.value ∙ c.self.view_is) in
    ap length (take_at c.lay_cells.new.values _ c.self.inside.0.len (omega (arith, c.lay_cells.auto.values, c.deref_mut.ensures.len))) ∙ omega (arith, c.lay_cells.auto.values, many, c.requires)
