use Rattle.std.proofs.Common.{List, length, sym, ap, subst, arith}
use Rattle.rule_eval.specs.declared.tally.Tally.{Tally}
use Rattle.cell_engine.specs.Cells.{Cells}
use Rattle.cell_engine.specs.Step.{near}
use Rattle.cell_engine.specs.Tallied.{outs_of, AreTallies}
use Rattle.cell_engine.proofs.Moving.{moves_so, within_space}
use Rattle.cell_engine.proofs.Shown.{kept_still}
use Rattle.cell_engine.proofs.store.CellStore.compute.Goals as goal

pub move_cell-requires-clause-tallies : goal.move_cell-requires-clause-tallies
move_cell-requires-clause-tallies g c =
    subst (λ (ts : List Tally). AreTallies (near c.self.inside.plan) (outs_of c.self.inside.table) ts) (sym c.deref.ensures.value) c.self.invariant.1.each

pub invariant_of-self : goal.invariant_of-self
invariant_of-self g c = (
  c.move_cell.ensures.ready,
  kept_still (near c.self.inside.plan) c.args.i c.self.inside.table c.move_cell.new.table c.self.inside.tallies.items c.move_cell.ensures.only c.self.invariant.1,
  c.move_cell.ensures.memo,
)

pub returns-clause-computed : goal.returns-clause-computed
returns-clause-computed g c = λ gr st sound named.
    let l = c.self.inside.plan in
    let tb = c.self.inside.table in
    let here = within_space l tb c.args.self.now c.args.i c.self.view_is c.self.invariant.0.cells c.requires.within in
    moves_so _ c.move_cell.result gr l tb c.args.self.now c.args.i c.args.t c.args.woken c.args.bag.now c.args.ports.now c.move_cell.new.table.cells c.self.view_is
    c.self.invariant.0.cells here c.self.invariant.0.width st sound named (c.move_cell.ensures.cell gr)

pub returns-clause-visits : goal.returns-clause-visits
returns-clause-visits g c =
    let desk = c.self.inside.desk in
    omega (arith, c.count.ensures, c.tick.ensures, c.len.ensures, desk.neighbours.ok.0, c.self.invariant.0.places, ap (λ (s : Cells). length s.layout.offsets) c.self.view_is)
