use Rattle.std.proofs.Common.{◌≡◌, ◌∙◌, sym, subst, arith}
use Rattle.rule_tree.specs.Meaning.{Sight}
use Rattle.run_model.specs.CellStep.{all_treated}
use Rattle.cell_table.specs.Told.{cell_at}
use Rattle.cell_table.proofs.Taking.{only_after}
use Rattle.cell_engine.specs.Cells.{Computes}
use Rattle.cell_engine.specs.Step.{sees, woken_at}
use Rattle.cell_engine.proofs.Computing.{then-goes, then-stops}
use Rattle.cell_engine.proofs.Looking.{sees_still}
use Rattle.cell_engine.proofs.bag.move_cell.Goals as goal

pub treat_all-requires-clause-cell : goal.treat_all-requires-clause-cell
treat_all-requires-clause-cell c =
    omega (arith, c.requires.cell, c.take_if_woken.ensures.ready.cells, c.requires.ready.cells)

pub returns-in-Err-clause-cell : goal.returns-in-Err-clause-cell
returns-in-Err-clause-cell c = λ g of.
    let t = c.args.turn.time in
    let i = c.args.turn.cell in
    let old = c.args.table.now.cells in
    let mid = c.take_if_woken.new.table.cells in
    let s = sees c.args.plan.now t c.args.table.now i in
    then-stops (Unit {0}) (Unit {0}) i old mid old mid (woken_at g t c.args.turn.woken s i (cell_at old i)) (all_treated g i t s c.args.bag.now)
    c.in-Err.why (c.in-Err.ensures.cell g of.stands of.sound)

pub returns-in-Ok-clause-cell : goal.returns-in-Ok-clause-cell
returns-in-Ok-clause-cell c = λ g of.
    let l = c.args.plan.now in
    let t = c.args.turn.time in
    let i = c.args.turn.cell in
    let old = c.args.table.now in
    let mid = c.take_if_woken.new.table in
    let new = c.treat_all.new.table.cells in
    let s = sees l t old i in
    let still : sees l t mid i ≡ s = sees_still l t old mid i i c.take_if_woken.ensures.only (c.take_if_woken.ensures.ready.width ∙ sym c.requires.ready.width) in
    then-goes (Unit {0}) (Unit {0}) i old.cells mid.cells new (woken_at g t c.args.turn.woken s i (cell_at old.cells i)) (all_treated g i t s c.args.bag.now)
    c.in-Ok.field-0 c.treat_all.result c.requires.cell (c.in-Ok.ensures.cell g of.stands of.sound)
    (subst (λ (y : Sight). Computes i mid.cells new (all_treated g i t y c.args.bag.now (cell_at mid.cells i)) c.treat_all.result) still (c.treat_all.ensures.cell g of))

pub returns-in-Ok-clause-only : goal.returns-in-Ok-clause-only
returns-in-Ok-clause-only c = only_after c.args.turn.cell c.args.table.now.cells c.take_if_woken.new.table.cells c.treat_all.new.table.cells c.requires.cell c.take_if_woken.ensures.only c.treat_all.ensures.only
