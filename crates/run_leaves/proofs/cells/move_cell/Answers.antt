use Rattle.run_leaves.proofs.Stepped.{moves-ok, moves-err}
use Rattle.std.proofs.Common.{◌∙◌, arith}
use Rattle.cell_engine.specs.Cells.{computed_at}
use Rattle.run_leaves.proofs.cells.move_cell.Goals as goal

pub returns-in-Ok-clause-moves : goal.returns-in-Ok-clause-moves
returns-in-Ok-clause-moves g c = λ h stands sound ports.
    moves-ok c.in-Ok.field-0 c.args.store.now.cells c.compute_cell.new.store.cells c.args.cell (computed_at c.args.t h c.args.store.now.cells c.args.cell c.args.woken c.args.bag.now) c.computed.result.value c.told_of.result
    c.requires.within c.requires.some c.compute_cell.ensures.only (c.in-Ok.ensures.computed h stands sound ports) c.computed.ensures.value c.told_of.ensures.value (c.told_of.ensures.next ∙ c.computed.ensures.next)

pub returns-in-Err-clause-moves : goal.returns-in-Err-clause-moves
returns-in-Err-clause-moves g c = λ h stands sound ports.
    let step = computed_at c.args.t h c.args.store.now.cells c.args.cell c.args.woken c.args.bag.now in
    moves-err _ c.args.store.now.cells c.compute_cell.new.store.cells c.args.cell step c.in-Err.why (c.in-Err.ensures.computed h stands sound ports)

pub returns-in-Ok-clause-visits : goal.returns-in-Ok-clause-visits
returns-in-Ok-clause-visits g c = omega (arith, c.compute_cell.ensures.visits, c.computed.ensures.visits)
