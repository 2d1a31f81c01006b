use Rattle.std.proofs.Common.{◌≤◌, ◌∙◌, ℕ, Option, length, ap, arith}
use Rattle.quantity.specs.declared.value.Value.{Value}
use Rattle.rule_tree.specs.Ports.{taken_at, taken_by_port}
use Rattle.cell_table.specs.Table.{changed_port, changed_ports}
use Rattle.run_model.specs.CellStep.{port_took}
use Rattle.cell_table.specs.Told.{no_cell, cell_at}
use Rattle.cell_table.proofs.Taking.{only_after, four_changes, given_taken, if_err, none_took, one_took, two_took, three_took}
use Rattle.cell_table.proofs.table.CellTable.take_ports.Goals as goal

pub returns-in_err-take_given-2-clause-only : goal.returns-in_err-take_given-2-clause-only
returns-in_err-take_given-2-clause-only c = only_after c.args.i c.args.self.now.cells c.take_given.new.self.cells c.take_given-2.new.self.cells c.requires.cell c.take_given.ensures.only c.take_given-2.ensures.only

pub returns-in_err-take_given-3-clause-only : goal.returns-in_err-take_given-3-clause-only
returns-in_err-take_given-3-clause-only c =
    let two = only_after c.args.i c.args.self.now.cells c.take_given.new.self.cells c.take_given-2.new.self.cells c.requires.cell c.take_given.ensures.only c.take_given-2.ensures.only in
    only_after c.args.i c.args.self.now.cells c.take_given-2.new.self.cells c.take_given-3.new.self.cells c.requires.cell two c.take_given-3.ensures.only

pub returns-in_err-take_given-4-clause-only : goal.returns-in_err-take_given-4-clause-only
returns-in_err-take_given-4-clause-only c =
    let two = only_after c.args.i c.args.self.now.cells c.take_given.new.self.cells c.take_given-2.new.self.cells c.requires.cell c.take_given.ensures.only c.take_given-2.ensures.only in
    let three = only_after c.args.i c.args.self.now.cells c.take_given-2.new.self.cells c.take_given-3.new.self.cells c.requires.cell two c.take_given-3.ensures.only in
    only_after c.args.i c.args.self.now.cells c.take_given-3.new.self.cells c.take_given-4.new.self.cells c.requires.cell three c.take_given-4.ensures.only

pub returns-clause-only : goal.returns-clause-only
returns-clause-only c =
    let two = only_after c.args.i c.args.self.now.cells c.take_given.new.self.cells c.take_given-2.new.self.cells c.requires.cell c.take_given.ensures.only c.take_given-2.ensures.only in
    let three = only_after c.args.i c.args.self.now.cells c.take_given-2.new.self.cells c.take_given-3.new.self.cells c.requires.cell two c.take_given-3.ensures.only in
    only_after c.args.i c.args.self.now.cells c.take_given-3.new.self.cells c.take_given-4.new.self.cells c.requires.cell three c.take_given-4.ensures.only

pub returns-clause-ok : goal.returns-clause-ok
returns-clause-ok c =
    let t = c.args.self.now in
    let numbers = c.width-width.ensures.table.numbers c.args.i no_cell c.requires.cell in
    let few : length (cell_at t.cells c.args.i).ports ≤ 4 = omega (arith, numbers.0, c.width-width.ensures.table.width) in
    let take = port_took c.args.kind c.args.at in
    let f = λ (p : ℕ) (v : Option Value). changed_port p (taken_at take v) in
    four_changes c.args.i (f 0 c.given_at.result) (f 1 c.given_at-2.result) (f 2 c.given_at-3.result) (f 3 c.given_at-4.result) (changed_ports (taken_by_port take c.args.given.now.values)) t c.take_given.new.self c.take_given-2.new.self c.take_given-3.new.self c.take_given-4.new.self
    c.in_ok-take_given.ensures.ok c.in_ok-take_given-2.ensures.ok c.in_ok-take_given-3.ensures.ok c.in_ok-take_given-4.ensures.ok
    (ap (λ ps. record (cell_at t.cells c.args.i) { ports = ps }) (given_taken take c.args.given.now.values c.given_at.result c.given_at-2.result c.given_at-3.result c.given_at-4.result (cell_at t.cells c.args.i).ports few c.given_at.ensures c.given_at-2.ensures c.given_at-3.ensures c.given_at-4.ensures))

pub returns-in_err-take_given-clause-err : goal.returns-in_err-take_given-clause-err
returns-in_err-take_given-clause-err c =
    if_err c.from_residual.result
    (none_took (port_took c.args.kind c.args.at) c.args.given.now.values c.args.i c.args.self.now c.take_given.new.self c.in_err-take_given.ensures.err)

pub returns-in_err-take_given-2-clause-err : goal.returns-in_err-take_given-2-clause-err
returns-in_err-take_given-2-clause-err c =
    let t = c.args.self.now in
    let numbers = c.width-width.ensures.table.numbers c.args.i no_cell c.requires.cell in
    let few : length (cell_at t.cells c.args.i).ports ≤ 4 = omega (arith, numbers.0, c.width-width.ensures.table.width) in
    if_err c.from_residual-in_err-take_given-2.result
    (one_took (port_took c.args.kind c.args.at) c.args.given.now.values c.args.i t c.given_at.result c.take_given-2.new.self few c.given_at.ensures (c.in_err-take_given-2.ensures.err ∙ c.in_ok-take_given.ensures.ok))

pub returns-in_err-take_given-3-clause-err : goal.returns-in_err-take_given-3-clause-err
returns-in_err-take_given-3-clause-err c =
    let t = c.args.self.now in
    let numbers = c.width-width.ensures.table.numbers c.args.i no_cell c.requires.cell in
    let few : length (cell_at t.cells c.args.i).ports ≤ 4 = omega (arith, numbers.0, c.width-width.ensures.table.width) in
    if_err c.from_residual-in_err-take_given-3.result
    (two_took (port_took c.args.kind c.args.at) c.args.given.now.values c.args.i t c.given_at.result c.given_at-2.result c.take_given.new.self c.take_given-3.new.self few c.given_at.ensures c.given_at-2.ensures
    c.in_ok-take_given.ensures.ok (c.in_err-take_given-3.ensures.err ∙ c.in_ok-take_given-2.ensures.ok))

pub returns-in_err-take_given-4-clause-err : goal.returns-in_err-take_given-4-clause-err
returns-in_err-take_given-4-clause-err c =
    let t = c.args.self.now in
    let numbers = c.width-width.ensures.table.numbers c.args.i no_cell c.requires.cell in
    let few : length (cell_at t.cells c.args.i).ports ≤ 4 = omega (arith, numbers.0, c.width-width.ensures.table.width) in
    if_err c.from_residual-in_err-take_given-4.result
    (three_took (port_took c.args.kind c.args.at) c.args.given.now.values c.args.i t c.given_at.result c.given_at-2.result c.given_at-3.result c.take_given.new.self c.take_given-2.new.self c.take_given-4.new.self few
    c.given_at.ensures c.given_at-2.ensures c.given_at-3.ensures
    c.in_ok-take_given.ensures.ok c.in_ok-take_given-2.ensures.ok (c.in_err-take_given-4.ensures.err ∙ c.in_ok-take_given-3.ensures.ok))
