use Rattle.std.proofs.Common.{◌≡◌, ◌∷◌, ◌++◌, ◌∙◌, [], length, sym, ap, arith, zero-add}
use Rattle.std.proofs.lemmas.List.FromFn.{map-range_with_len_more}
use Rattle.cell_table.specs.Told.{no_cell, cell_at}
use Rattle.cell_table.specs.Table.{port_at}
use Rattle.cell_table.proofs.Written.{all_ports}
use Rattle.cell_table.proofs.table.CellTable.state.Goals as goal

pub loop-p-preserved : goal.loop-p-preserved
loop-p-preserved c =
    let p = c.loop-p.p in
    c.in_ok-add_port.ensures ∙ (λ k. c.loop-p.invariant k ++ c.in_ok-port.ensures k ∷ []) ∙ sym (map-range_with_len_more (port_at c.args.self.now c.args.i) 0 p p (zero-add p))

pub returns : goal.returns
returns c =
    let t = c.args.self.now in
    let numbers = c.width-p-end.ensures.table.numbers c.args.i no_cell c.requires in
    let all : c.loop-p.p ≡ length (cell_at t.cells c.args.i).ports = omega (arith, numbers.0, c.width-p-end.ensures.value, c.loop-p-test.false, c.loop-p.auto.p-end) in
    let ports = c.loop-p.invariant ∙ all_ports t c.args.i c.loop-p.p all in
    let variables = c.in_ok-extend_from_slice.ensures.items ∙ ap (λ xs. xs ++ c.variables_at.result.now) c.new-variables.ensures.items ∙ c.variables_at.ensures.values in
    λ k. record { ports = ports k; variables = variables k }
