use Rattle.std.proofs.Common.{List, refl, arith}
use Rattle.rule_tree.specs.Expression.{Rule}
use Rattle.run_model.specs.CellStep.{cell_rules}
use Rattle.cell_table.specs.Told.{cell_at}
use Rattle.cell_engine.specs.Cells.{Computes}
use Rattle.cell_engine.specs.Step.{step_by_rules, rules_at, sees}
use Rattle.cell_engine.proofs.Ruling.{cell_stands, of_the_group}
use Rattle.cell_engine.proofs.Takes.{is_woken}
use Rattle.cell_engine.proofs.bag.take_if_woken.Goals as goal

pub returns-then-woken-clause-cell : goal.returns-then-woken-clause-cell
returns-then-woken-clause-cell c = λ g st sound.
    let l = c.args.plan.now in
    let tb = c.args.table.now in
    let i = c.args.i in
    let s = sees l c.args.t tb i in
    let cell = cell_at tb.cells i in
    let P : List Rule → Type 0 = λ rs. Computes i tb.cells c.by_set.new.table.cells (step_by_rules l.settings.kind s rs cell) c.by_set.result in
    let own = cell_stands g l i 0 (rules_at l i) st sound (omega (arith, c.requires.cell, c.requires.ready.cells)) refl in
    is_woken _ c.by_set.result g l i tb.cells c.by_set.new.table.cells l.settings.kind s c.args.woken cell
    st refl c.if-woken.true (of_the_group P (rules_at l i) (cell_rules g i) own c.by_set.ensures.cell)
