use Rattle.std.proofs.Common.{◌≡◌, ◌+◌, ◌<◌, ◌∙◌, length, drop, sym, subst, arith, Ok, Err}
use Rattle.std.specs.declared.result.Result.{Result}
use Rattle.rule_tree.specs.Meaning.{Sight}
use Rattle.run_model.specs.CellStep.{step_by_value, all_treated}
use Rattle.cell_table.specs.Told.{cell_at}
use Rattle.cell_table.proofs.Taking.{only_after}
use Rattle.run_model.specs.declared.stop.LeafStop.{LeafStop}
use Rattle.cell_engine.specs.Cells.{Computes}
use Rattle.cell_engine.specs.Step.{sees}
use Rattle.cell_engine.proofs.Computing.{one-left, one-done, one-stops}
use Rattle.cell_engine.proofs.Looking.{sees_still}
use Rattle.cell_engine.proofs.bag.treat_all.Goals as goal

pub returns-in-Err-clause-only : goal.returns-in-Err-clause-only
returns-in-Err-clause-only c =
    only_after c.args.i c.args.table.now.cells c.loop-input.table.cells c.treat_one.new.table.cells c.requires.cell c.loop-input.invariant.only c.treat_one.ensures.only

pub returns-in-Err-clause-cell : goal.returns-in-Err-clause-cell
returns-in-Err-clause-cell c = λ g of.
    let l = c.args.plan.now in
    let t = c.args.t in
    let i = c.args.i in
    let bag = c.args.bag.now in
    let k = c.loop-input.input-index in
    let x = c.input-item.result in
    let old = c.args.table.now in
    let mid = c.loop-input.table in
    let new = c.treat_one.new.table.cells in
    let inv = c.loop-input.invariant in
    let s = sees l t old i in
    let still : sees l t mid i ≡ s = sees_still l t old mid i i inv.only (inv.ready.width ∙ sym c.requires.ready.width) in
    let all = all_treated g i t s bag (cell_at old.cells i) in
    one-stops (Unit {0}) (Unit {0}) i mid.cells new old.cells new all (step_by_value g i t s x (cell_at mid.cells i)) (all_treated g i t s (drop (k + 1) bag)) c.in-Err.why
    (one-left g i t s bag k x (cell_at mid.cells i) all c.loop-input-test.true c.input-item.is (inv.left g of))
    (subst (λ (y : Sight). let r : Result (Unit {0}) LeafStop = Err c.in-Err.why in Computes i mid.cells new (step_by_value g i t y x (cell_at mid.cells i)) r) still (c.in-Err.ensures.cell g of))

pub loop-input-preserved : goal.loop-input-preserved
loop-input-preserved c =
    let l = c.args.plan.now in
    let t = c.args.t in
    let i = c.args.i in
    let bag = c.args.bag.now in
    let k = c.loop-input.input-index in
    let x = c.input-item.result in
    let old = c.args.table.now in
    let mid = c.loop-input.table in
    let new = c.treat_one.new.table.cells in
    let inv = c.loop-input.invariant in
    let s = sees l t old i in
    let still : sees l t mid i ≡ s = sees_still l t old mid i i inv.only (inv.ready.width ∙ sym c.requires.ready.width) in
    let here : i < length mid.cells = omega (arith, c.requires.cell, inv.ready.cells, c.requires.ready.cells) in
    record {
      only = only_after i old.cells mid.cells new c.requires.cell inv.only c.treat_one.ensures.only;
      ready = c.treat_one.ensures.ready;
      left = λ g of.
          let all = all_treated g i t s bag (cell_at old.cells i) in
          one-done (Unit {0}) i mid.cells new all (step_by_value g i t s x (cell_at mid.cells i)) (all_treated g i t s (drop (k + 1) bag)) c.in-Ok.field-0 here
          (one-left g i t s bag k x (cell_at mid.cells i) all c.loop-input-test.true c.input-item.is (inv.left g of))
          (subst (λ (y : Sight). let r : Result (Unit {0}) LeafStop = Ok c.in-Ok.field-0 in Computes i mid.cells new (step_by_value g i t y x (cell_at mid.cells i)) r) still (c.in-Ok.ensures.cell g of));
    }
