use Rattle.std.proofs.Common.{sym, subst}
use Rattle.atomic_face.specs.Classes.{Bag}
use Rattle.model_tree.specs.Pull.{cell_ports}
use Rattle.cell_engine.specs.Cells.{computed_at, Computes}
use Rattle.run_leaves.proofs.Bagged.{no_bag_is, names_needed}
use Rattle.run_leaves.proofs.cells.compute_cell.Goals as goal

pub returns-then-is_empty-clause-computed : goal.returns-then-is_empty-clause-computed
returns-then-is_empty-clause-computed g c = λ h stands sound names.
    let old = c.args.store.now.cells in
    let i = c.args.cell in
    subst (λ (b : Bag). Computes i old c.compute_alone.new.self.cells (computed_at c.args.t h old i c.args.woken b) c.compute_alone.result)
    (sym (no_bag_is c.args.bag.now c.is_empty.result c.is_empty.ensures c.if-is_empty.true)) (c.compute_alone.ensures.computed h stands sound)

pub returns-else-is_empty-clause-computed : goal.returns-else-is_empty-clause-computed
returns-else-is_empty-clause-computed g c = λ h stands sound names.
    c.compute.ensures.computed h stands sound
    (names_needed c.args.bag.now c.is_empty.result c.args.ports.now (cell_ports h c.args.cell) c.is_empty.ensures c.if-is_empty.false names)
