use Rattle.std.proofs.Common.{sym, subst}
use Rattle.cell_table.specs.Told.{cell_at}
use Rattle.rule_eval.specs.declared.lent.Lent.{Lent}
use Rattle.cell_engine.specs.Step.{TakesGiven, given_found, variables_found}
use Rattle.cell_engine.proofs.step.take_found.Goals as goal

pub returns-in-Known-clause-cell : goal.returns-in-Known-clause-cell
returns-in-Known-clause-cell c =
    let old = c.args.table.now in
    subst (λ (lent : Lent). TakesGiven c.args.i c.args.kind c.args.at (given_found lent c.args.given.now).values (variables_found lent c.args.changed.now (cell_at old.cells c.args.i).variables) old.cells c.take_lent.new.table.cells c.take_lent.result)
    (sym c.in-Known.is) c.take_lent.ensures.cell

pub returns-in-Alone-clause-cell : goal.returns-in-Alone-clause-cell
returns-in-Alone-clause-cell c =
    let old = c.args.table.now in
    subst (λ (lent : Lent). TakesGiven c.args.i c.args.kind c.args.at (given_found lent c.args.given.now).values (variables_found lent c.args.changed.now (cell_at old.cells c.args.i).variables) old.cells c.take_value.new.table.cells c.take_value.result)
    (sym c.in-Alone.is) c.take_value.ensures.cell

pub returns-in-Placed-clause-cell : goal.returns-in-Placed-clause-cell
returns-in-Placed-clause-cell c =
    let old = c.args.table.now in
    subst (λ (lent : Lent). TakesGiven c.args.i c.args.kind c.args.at (given_found lent c.args.given.now).values (variables_found lent c.args.changed.now (cell_at old.cells c.args.i).variables) old.cells c.take_made.new.table.cells c.take_made.result)
    (sym c.in-Placed.is) c.take_made.ensures.cell
