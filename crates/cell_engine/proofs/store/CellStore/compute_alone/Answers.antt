use Rattle.std.proofs.Common.{List, [], length, refl, sym, ap, subst, arith}
use Rattle.rule_eval.specs.declared.tally.Tally.{Tally}
use Rattle.model_tree.specs.Pull.{cell_ports}
use Rattle.run_model.specs.CellStep.{Stepped}
use Rattle.cell_table.specs.Told.{cell_at}
use Rattle.cell_engine.specs.Cells.{Cells, Computes}
use Rattle.cell_engine.specs.Step.{near, sees, woken_at}
use Rattle.cell_engine.specs.Tallied.{outs_of, AreTallies}
use Rattle.cell_engine.proofs.Computing.{no_bag}
use Rattle.cell_engine.proofs.Moving.{moves_so, within_space}
use Rattle.cell_engine.proofs.Shown.{kept_still}
use Rattle.cell_engine.proofs.store.CellStore.compute_alone.Goals as goal

pub take_if_woken-requires-clause-tallies : goal.take_if_woken-requires-clause-tallies
take_if_woken-requires-clause-tallies g c =
    subst (λ (ts : List Tally). AreTallies (near c.self.inside.plan) (outs_of c.self.inside.table) ts) (sym c.deref.ensures.value) c.self.invariant.1.each

pub invariant_of-self : goal.invariant_of-self
invariant_of-self g c = (
  c.take_if_woken.ensures.ready,
  kept_still (near c.self.inside.plan) c.args.i c.self.inside.table c.take_if_woken.new.table c.self.inside.tallies.items c.take_if_woken.ensures.only c.self.invariant.1,
  c.take_if_woken.ensures.memo,
)

pub returns-clause-computed : goal.returns-clause-computed
returns-clause-computed g c = λ gr st sound.
    let l = c.self.inside.plan in
    let tb = c.self.inside.table in
    let i = c.args.i in
    let t = c.args.t in
    let new = c.take_if_woken.new.table.cells in
    let s = sees l t tb i in
    let here = within_space l tb c.args.self.now i c.self.view_is c.self.invariant.0.cells c.requires.within in
    moves_so _ c.take_if_woken.result gr l tb c.args.self.now i t c.args.woken [] (cell_ports gr i) new c.self.view_is
    c.self.invariant.0.cells here c.self.invariant.0.width st sound refl
    (λ of. subst (λ (x : Stepped). Computes i tb.cells new x c.take_if_woken.result) (sym (no_bag gr i t s (woken_at gr t c.args.woken s i (cell_at tb.cells i)))) (c.take_if_woken.ensures.cell gr of.stands of.sound))

pub returns-clause-visits : goal.returns-clause-visits
returns-clause-visits g c =
    let desk = c.self.inside.desk in
    omega (arith, c.count.ensures, c.tick.ensures, c.len-places.ensures, desk.neighbours.ok.0, c.self.invariant.0.places, ap (λ (s : Cells). length s.layout.offsets) c.self.view_is)
