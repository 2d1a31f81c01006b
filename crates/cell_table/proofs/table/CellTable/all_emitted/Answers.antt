use Rattle.std.proofs.Common.{◌+◌, ◌*◌, ◌∙◌, get_or, ap, length, sym, arith}
use Rattle.quantity.specs.declared.value.Value.TheVariants.{Undefined}
use Rattle.cell_table.proofs.Kept.{cells_seen, width_seen, emitted_read}
use Rattle.cell_table.proofs.table.CellTable.all_emitted.Goals as goal

pub returns-clause-long : goal.returns-clause-long
returns-clause-long c =
    let s = c.self.inside in
    let t = c.args.self.now in
    ap length c.deref.ensures.value ∙ c.self.invariant.emitted ∙ (λ k. cells_seen s t c.self.view_is k * width_seen s t c.self.view_is k)

pub returns-clause-values : goal.returns-clause-values
returns-clause-values c = λ i p here within.
    let s = c.self.inside in
    let t = c.args.self.now in
    let wide = width_seen s t c.self.view_is in
    ap (λ xs. get_or xs (i * t.width + p) Undefined) c.deref.ensures.value ∙ ap (λ w. get_or s.emitted.items (i * w + p) Undefined) (sym wide)
    ∙ emitted_read s t c.self.view_is c.self.invariant i here p (omega (arith, wide, within))
